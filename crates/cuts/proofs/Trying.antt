-- A try of two edges: marked for a search, and unmarked again.
use mathlib.Core.Path.{◌≡◌, refl, sym, ap, subst, ◌∙◌}
use mathlib.Core.Logic.{inl, inr}
use mathlib.Core.List.Memᴰ.{cases_cons as in-cons}
use mathlib.Core.List.Memᴰ.{head as here}
use mathlib.Core.List.Memᴰ.{not-nil as not_in}
use mathlib.Core.List.Memᴰ.{tail as later}
use mathlib.Core.Bool.{Bool, true, false, cond}
use mathlib.Core.List.{List, [], ◌∷◌, Memᴰ as In}
use Prim.Native.Nat.{ℕ, ◌+◌, ◌*◌, ◌<◌}
use native.Mathlib.Omega.{arith}
use native.Mathlib.Decide.{ℕ_discrete}
use lib.Dec.{T, eqb, ltb}
use lib.ListN.{length, get_or, set, length-set}
use lib.Seq.{ext_get_or, get_or-set_same, get_or-set_other}
use Rattle.connectivity.specs.Plan.{Plan, graph, Limits}
use Rattle.connectivity.specs.Graph.{Graph, Vertex, Edge}
use Rattle.connectivity.specs.Cut.{disconnects}
use Rattle.connectivity.specs.Admission.{kept_vertices}
use Rattle.connectivity.proofs.Lists.{T-dec, T_true, T_false}
use Rattle.connectivity.proofs.Disconnects.{disconnects_is, connected_less}
use Rattle.connectivity.proofs.Kept.{edge_is, edge_size_lem}
use Rattle.graph.specs.Marks.{read}
use Rattle.depth.specs.Depth.{Masking, Cutting}
use Rattle.cuts.specs.Tries.{Tables, Ready, Restored, EndOf, lower_end}

-- both marks
abbrev pub both : List ℕ → ℕ → ℕ → ℕ → List ℕ
both dead e d x = set (set dead e x) d x

pub both_long : (dead : List ℕ) (e d x : ℕ) → length (both dead e d x) ≡ length dead
both_long dead e d x = length-set (set dead e x) d x ∙ length-set dead e x

module _ (dead : List ℕ) (e d : ℕ) where
  marked_one : (x : ℕ) → e < length dead → d < length dead → get_or (both dead e d x) e 0 ≡ x
  marked_one x h l = elim (ℕ_discrete e d) [
    | yes q ↦ ap (λ (k : ℕ). get_or (both dead e d x) k 0) q ∙ get_or-set_same (set dead e x) d x 0 (omega (arith, length-set dead e x))
    | no q ↦ get_or-set_other (set dead e x) d e x 0 q ∙ get_or-set_same dead e x 0 h
  ]

  marked_two : (x : ℕ) → d < length dead → get_or (both dead e d x) d 0 ≡ x
  marked_two x l = get_or-set_same (set dead e x) d x 0 (omega (arith, length-set dead e x))

  unmarked : (x k : ℕ) → (k ≡ e → ⊥) → (k ≡ d → ⊥) → get_or (both dead e d x) k 0 ≡ get_or dead k 0
  unmarked x k n o = get_or-set_other (set dead e x) d k x 0 o ∙ get_or-set_other dead e k x 0 n

module _ (dead : List ℕ) (e d : ℕ) (h : e < length dead) (l : d < length dead) where
  -- they mark the edges of the set, and no others
  pub cutting : (p : Plan) → Masking p (read dead) → ((k : ℕ) → Edge (graph p) k → get_or dead k 0 ≡ 0) → Cutting p (e ∷ (d ∷ [])) (read (both dead e d 1))
  cutting p masking live = record {
    masking = λ k b z. masking k b (still k z);
    gone = λ k b i z. gone k i z;
    kept = λ k b n. unmarked dead e d 1 k (λ q. n (here q)) (λ q. n (later (here q))) ∙ live k b;
  }
    where
      -- what has no mark now had none before
      still : (k : ℕ) → get_or (both dead e d 1) k 0 ≡ 0 → get_or dead k 0 ≡ 0
      still k z = elim (ℕ_discrete k e) [
        | yes q ↦ let r = marked_one dead e d 1 h l in let s : get_or (both dead e d 1) e 0 ≡ 0 = rw q at z in absurd (omega arith)
        | no n ↦ elim (ℕ_discrete k d) [
          | yes q ↦ let r = marked_two dead e d 1 l in let s : get_or (both dead e d 1) d 0 ≡ 0 = rw q at z in absurd (omega arith)
          | no o ↦ sym (unmarked dead e d 1 k n o) ∙ z
        ]
      ]

      gone : (k : ℕ) → In k (e ∷ (d ∷ [])) → get_or (both dead e d 1) k 0 ≡ 0 → ⊥
      gone k i z = elim (in-cons i) [
        | inl q ↦ let r = marked_one dead e d 1 h l in let s : get_or (both dead e d 1) e 0 ≡ 0 = rw q at z in omega arith
        | inr j ↦ elim (in-cons j) [
          | inl q ↦ let r = marked_two dead e d 1 l in let s : get_or (both dead e d 1) d 0 ≡ 0 = rw q at z in omega arith
          | inr n ↦ absurd (not_in n)
        ]
      ]

  -- and are taken back
  pub taken_back : get_or dead e 0 ≡ 0 → get_or dead d 0 ≡ 0 → both (both dead e d 1) e d 0 ≡ dead
  taken_back p q = ext_get_or 0 (both (both dead e d 1) e d 0) dead (both_long (both dead e d 1) e d 0 ∙ both_long dead e d 1)
      (λ k b. elim (ℕ_discrete k e) [
        | yes s ↦ rw s (marked_one (both dead e d 1) e d 0 (omega (arith, both_long dead e d 1)) (omega (arith, both_long dead e d 1)) ∙ sym p)
        | no n ↦ elim (ℕ_discrete k d) [
          | yes s ↦ rw s (marked_two (both dead e d 1) e d 0 (omega (arith, both_long dead e d 1)) ∙ sym q)
          | no o ↦ unmarked (both dead e d 1) e d 0 k n o ∙ unmarked dead e d 1 k n o
        ]
      ])

-- the same edges disconnect the same
more : (g : Graph) {a b : List ℕ} → ((k : ℕ) → In k a → In k b) → T (disconnects g a) → T (disconnects g b)
more g {a} {b} f t = (disconnects_is g b).1 (λ c. (disconnects_is g a).0 t (connected_less c (λ k j. f k)))

pub one_twice : (g : Graph) (e : ℕ) → disconnects g (e ∷ (e ∷ [])) ≡ disconnects g (e ∷ [])
one_twice g e = elim (T-dec (disconnects g (e ∷ []))) [
  | yes t ↦ T_true (disconnects g (e ∷ (e ∷ []))) (more g (λ k. later) t) ∙ sym (T_true (disconnects g (e ∷ [])) t)
  | no n ↦ T_false (disconnects g (e ∷ (e ∷ []))) (λ t. n (more g {b = e ∷ []} (λ k i. elim (in-cons {b = e} {l = e ∷ []} i) [ inl q ↦ here q | inr j ↦ j ]) t)) ∙ sym (T_false (disconnects g (e ∷ [])) n)
]

module _ {most : Limits} {p : Plan} {incident begins first dead₀ marks₀ order₀ cursor₀ dead marks order cursor : List ℕ} where
  pub ready_again : Ready most p incident begins first dead₀ marks₀ order₀ cursor₀ → Restored dead₀ marks₀ order₀ cursor₀ dead marks order cursor → Ready most p incident begins first dead marks order cursor
  ready_again r s = let t = r.tables in record {
    tables = record {
      tabled = t.tabled;
      dead_room = rw s.dead_same t.dead_room;
      masking = rw s.dead_same t.masking;
      marks_room = rw s.marks_same t.marks_room;
      order_room = omega (arith, s.order_long, t.order_room);
      cursor_room = omega (arith, s.cursor_long, t.cursor_room);
      fresh = rw s.marks_same t.fresh;
    };
    live = rw s.dead_same r.live;
    first_room = r.first_room;
  }

pub restored_same : {dead marks order cursor : List ℕ} → Restored dead marks order cursor dead marks order cursor
restored_same = record { dead_same = refl; marks_same = refl; order_long = refl; cursor_long = refl }

pub restored_more : {dead₀ marks₀ order₀ cursor₀ dead₁ marks₁ order₁ cursor₁ dead marks order cursor : List ℕ} → Restored dead₀ marks₀ order₀ cursor₀ dead₁ marks₁ order₁ cursor₁
    → Restored dead₁ marks₁ order₁ cursor₁ dead marks order cursor → Restored dead₀ marks₀ order₀ cursor₀ dead marks order cursor
restored_more a b = record {
  dead_same = b.dead_same ∙ a.dead_same;
  marks_same = b.marks_same ∙ a.marks_same;
  order_long = b.order_long ∙ a.order_long;
  cursor_long = b.cursor_long ∙ a.cursor_long;
}

-- what is found over an edge is an end of it
pub end_of : (ends first : List ℕ) (e : ℕ) {r : ℕ} → r ≡ lower_end ends first e → EndOf ends e r
end_of ends first e {r} q = go (eqb (get_or first (get_or ends (2 * e) 0) 0) (e + 1)) q
  where
    go : (t : Bool) → r ≡ cond t (get_or ends (2 * e) 0) (get_or ends (2 * e + 1) 0) → EndOf ends e r
    go true p = inl p
    go false p = inr p

-- the root of a try is a vertex
pub end_vertex : (p : Plan) {e r : ℕ} → Edge (graph p) e → EndOf p.ends e r → Vertex (graph p) r
end_vertex p {e} {r} k (inl q) = subst (Vertex (graph p)) (sym q) ((edge_is p e).0 k).1
end_vertex p {e} {r} k (inr q) = subst (Vertex (graph p)) (sym q) ((edge_is p e).0 k).2

module _ {most : Limits} {p : Plan} {incident begins first dead₀ marks₀ order₀ cursor₀ : List ℕ} (r : Ready most p incident begins first dead₀ marks₀ order₀ cursor₀) {e d : ℕ} (h : Edge (graph p) e) (l : Edge (graph p) d) where
  room : (k : ℕ) → Edge (graph p) k → k < length dead₀
  room k b = omega (arith, r.tables.dead_room, edge_size_lem p b)

  marked_cut : Cutting p (e ∷ (d ∷ [])) (read (both dead₀ e d 1))
  marked_cut = cutting dead₀ e d (room e h) (room d l) p r.tables.masking r.live

  -- marked
  pub try_tables : {dead₁ : List ℕ} → dead₁ ≡ both dead₀ e d 1 → Tables most p incident begins dead₁ marks₀ order₀ cursor₀
  try_tables q = let t = r.tables in record {
    tabled = t.tabled;
    dead_room = omega (arith, t.dead_room, ap length q ∙ both_long dead₀ e d 1);
    masking = rw q marked_cut.masking;
    marks_room = t.marks_room;
    order_room = t.order_room;
    cursor_room = t.cursor_room;
    fresh = t.fresh;
  }

  -- the whole try: `most-seen` is how many could be seen
  pub tried : {dead₁ dead marks order cursor : List ℕ} (count most-seen : ℕ) → most-seen ≡ kept_vertices p → dead₁ ≡ both dead₀ e d 1
      → ((cut : List ℕ) → Cutting p cut (read dead₁) → ltb count (kept_vertices p) ≡ disconnects (graph p) cut) → marks ≡ marks₀
      → dead ≡ both dead₁ e d 0 → length order ≡ length order₀ → length cursor ≡ length cursor₀
      → (ltb count most-seen ≡ disconnects (graph p) (e ∷ (d ∷ []))) × Restored dead₀ marks₀ order₀ cursor₀ dead marks order cursor
  tried count most-seen q k s f b o c = (
    ap (ltb count) q ∙ s (e ∷ (d ∷ [])) (rw k marked_cut),
    record {
      dead_same = b ∙ ap (λ (x : List ℕ). both x e d 0) k ∙ taken_back dead₀ e d (room e h) (room d l) (r.live e h) (r.live d l);
      marks_same = f;
      order_long = o;
      cursor_long = c;
    },
  )
