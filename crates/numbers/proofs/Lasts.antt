-- The last number at or below each vertex, found from the last vertex of the order to the first.
use mathlib.Core.Path.{◌≡◌, refl, sym, subst, ◌∙◌}
use mathlib.Core.Logic.{◌⊎◌, inl, inr}
use mathlib.Core.Bool.{Bool, true, false, cond}
use mathlib.Core.List.{List}
use Prim.Native.Nat.{ℕ, ◌+◌, ◌≤◌, ◌<◌}
use native.Mathlib.Omega.{arith}
use native.Mathlib.Decide.{ℕ_discrete}
use borrow.Author.Tests.{ltb-true, ltb-false}
use lib.Dec.{ltb}
use lib.ListN.{length, set}
use lib.Seq.{get_or-set_same, get_or-set_other}
use Rattle.connectivity.specs.Graph.{Graph, Vertex}
use Rattle.tree.specs.Tree.{Pointers, Child, Above, same, higher, Tree, Preorder}
use Rattle.tree.proofs.Above.{above_trans, above_rank, preorder_from}
use Rattle.graph.specs.Marks.{read}
use Rattle.numbers.specs.Tables.{raise_to}
use Rattle.numbers.specs.Standing.{Together}
use Rattle.numbers.proofs.Overs.{larger}

-- each vertex has the number of one at or below it; those with numbers from k on have handed theirs up
pub record Lasts (g : Graph) (t : Pointers) (k : ℕ) (last : ℕ → ℕ) : Type 0 where
  pub some : (c : ℕ) → Vertex g c → (z : ℕ) × Above g t c z × (last c ≡ t.rank z)
  pub handed : (d : ℕ) → Child g t d → k ≤ t.rank d → last d ≤ last (t.parent d)

-- the place of the one above gets the larger of both numbers
pub record RaisedTo (up v : ℕ) (last last' : ℕ → ℕ) : Type 0 where
  pub one : (last' up ≡ last up) ⊎ (last' up ≡ last v)
  pub own : last up ≤ last' up
  pub other : last v ≤ last' up
  pub away : (u : ℕ) → (u ≡ up → ⊥) → last' u ≡ last u

pub raised : (last : List ℕ) (up v : ℕ) → up < length last → RaisedTo up v (read last) (read (raise_to last up v))
unfolding raise_to
raised last up v h = go (ltb (read last up) (read last v)) refl
  where
    go : (b : Bool) → ltb (read last up) (read last v) ≡ b → RaisedTo up v (read last) (read (cond b (set last up (read last v)) last))
    go true q = let p = get_or-set_same last up (read last v) 0 h in let l = ltb-true (read last up) (read last v) q in record {
      one = inr p;
      own = omega (arith, p);
      other = omega (arith, p);
      away = λ u n. get_or-set_other last up u (read last v) 0 n;
    }
    go false q = record { one = inl refl; own = omega arith; other = ltb-false (read last up) (read last v) q; away = λ u n. refl }

module _ {g : Graph} {t : Pointers} (tree : Tree g t) where
  pub lasts_start : {n : ℕ} {last : ℕ → ℕ} → ((v : ℕ) → Vertex g v → t.rank v < n) → ((v : ℕ) → Vertex g v → last v ≡ t.rank v) → Lasts g t n last
  lasts_start few own = record {
    some = λ c h. (c, same, own c h);
    handed = λ d h l. absurd (omega (arith, few d h.vertex));
  }

  -- no vertex has the number k
  pub lasts_skip : {k : ℕ} {last : ℕ → ℕ} → ((c : ℕ) → Vertex g c → t.rank c ≡ k → ⊥) → Lasts g t (k + 1) last → Lasts g t k last
  lasts_skip none l = record {
    some = l.some;
    handed = λ d h b. l.handed d h (omega (arith, none d h.vertex));
  }

  -- the vertex v with number k hands up its own
  pub lasts_step : {k v : ℕ} {last last' : ℕ → ℕ} → ((c : ℕ) → Vertex g c → t.rank c ≡ k → c ≡ v) → Child g t v → t.rank v ≡ k
      → Lasts g t (k + 1) last → RaisedTo (t.parent v) v last last' → Lasts g t k last'
  lasts_step {k} {v} {last} {last'} only h p l r = record { some = some; handed = handed }
    where
      under : {z : ℕ} → Above g t v z → Above g t (t.parent v) z
      under a = above_trans (higher h same) a

      some : (c : ℕ) → Vertex g c → (z : ℕ) × Above g t c z × (last' c ≡ t.rank z)
      some c hc = elim (ℕ_discrete c (t.parent v)) [
        | yes q ↦ elim r.one [
          | inl e ↦ let (z, a, m) = l.some c hc in (z, a, subst (λ (u : ℕ). last' u ≡ t.rank z) (sym q) (e ∙ subst (λ (u : ℕ). last u ≡ t.rank z) q m))
          | inr e ↦ let (z, a, m) = l.some v h.vertex in
              (z, subst (λ (u : ℕ). Above g t u z) (sym q) (under a), subst (λ (u : ℕ). last' u ≡ t.rank z) (sym q) (e ∙ m))
        ]
        | no q ↦ let (z, a, m) = l.some c hc in (z, a, r.away c q ∙ m)
      ]

      -- what is handed up is not itself changed: its number is too large
      apart : (d : ℕ) → k ≤ t.rank d → d ≡ t.parent v → ⊥
      apart d b q = omega (arith, tree.falls v h, subst (λ (u : ℕ). k ≤ t.rank u) q b)

      handed : (d : ℕ) → Child g t d → k ≤ t.rank d → last' d ≤ last' (t.parent d)
      handed d hd b = elim (ℕ_discrete d v) [
        | yes q ↦ subst (λ (u : ℕ). last' u ≤ last' (t.parent u)) (sym q)
            (omega (arith, r.other, r.away v (apart v (omega arith))))
        | no q ↦ elim (ℕ_discrete (t.parent d) (t.parent v)) [
          | yes s ↦ omega (arith, r.away d (apart d b), old d hd b q, s_own s)
          | no s ↦ omega (arith, r.away d (apart d b), r.away (t.parent d) s, old d hd b q)
        ]
      ]
        where
          old : (d : ℕ) → Child g t d → k ≤ t.rank d → (d ≡ v → ⊥) → last d ≤ last (t.parent d)
          old d hd b q = l.handed d hd (larger t only hd.vertex b q)

          s_own : {u : ℕ} → u ≡ t.parent v → last u ≤ last' u
          s_own {u} s = subst (λ (u : ℕ). last u ≤ last' u) (sym s) r.own

  -- at the end what is below a vertex has no larger number
  lasts_fall : {last : ℕ → ℕ} → Lasts g t 1 last → {c w : ℕ} → Above g t c w → last w ≤ last c
  lasts_fall l same = omega arith
  lasts_fall l (higher {v = v} h a) = omega (arith, lasts_fall l a, l.handed v h (omega (arith, tree.falls v h)))

  above_vertex : {c w : ℕ} → Above g t c w → Vertex g c → Vertex g w
  above_vertex same h = h
  above_vertex (higher c a) h = c.vertex

  -- it is the number of a vertex
  pub lasts_vertex : {k : ℕ} {last : ℕ → ℕ} → Lasts g t k last → (c : ℕ) → Vertex g c → (z : ℕ) × Vertex g z × (last c ≡ t.rank z)
  lasts_vertex l c h = let (z, a, q) = l.some c h in (z, above_vertex a h, q)

  pub lasts_end : {last : ℕ → ℕ} → Together g t → Lasts g t 1 last → Preorder g t last
  lasts_end {last} together l = preorder_from together l.some
      (λ c w a h. let (z, b, p) = l.some w (above_vertex a h) in omega (arith, lasts_fall l a, above_rank tree b, p))
