-- The marks that are packed are those of the vertices that fall with the cut; so the whole answer.
use Rattle.std.specs.Prelude.{Err, Ok}
use mathlib.Core.Path.{◌≡◌, sym, ap, ap₂, subst, ◌∙◌}
use mathlib.Core.Bool.{Bool, not, ◌&&◌}
use mathlib.Core.List.{List, Memᴰ as In}
use Prim.Native.Nat.{ℕ, ◌≤◌, ◌<◌}
use native.Mathlib.Omega.{arith}
use borrow.Author.Tests.{ne_eqb}
use lib.Dec.{T, T_not, not_T, eqb, eqb→eq, ltb, ltb→lt, lt→ltb}
use lib.ListN.{length, get_or, replicate, length-replicate}
use Rattle.connectivity.specs.Lists.{mem}
use Rattle.connectivity.specs.Plan.{Plan, graph, Limits}
use Rattle.connectivity.specs.Graph.{is_vertex}
use Rattle.connectivity.specs.Cut.{cut_off, disconnects}
use Rattle.connectivity.specs.Fallen.{fallen, marks_of, words_for}
use Rattle.connectivity.specs.Admission.{Admitted, admission}
use Rattle.connectivity.proofs.Lists.{same_tests, T-dec, T_false, and_both, both_and, mem_in, not_mem, eq-T}
use Rattle.connectivity.proofs.Search.{is_vertex_lem}
use Rattle.connectivity.proofs.Admission.{admission_is, admission_number}
use Rattle.connectivity.proofs.Kept.{vertex_is, bound_is}
use Rattle.connectivity.proofs.Fallen.{words_same, cut_off_vertex, fallen-count, fallen_parts}
use Rattle.graph.specs.Excluded.{MarkedAll}
use Rattle.graph.specs.Admission.{told_by}
use Rattle.graph.specs.declared.Answer as code
use Rattle.graph.proofs.Tally.{zeros}
use Rattle.removal.specs.declared.Fallen.{Fallen}
use Rattle.removal.specs.Fallen.{fallen_by, Removed, removed_after, removed_by, Left, is_unseen, Packed}

-- the marks of a list stand for it
pub barred_is : (most : Limits) (n : ℕ) (excluded first barred : List ℕ) → n ≤ most.vertices → MarkedAll excluded (replicate most.vertices 0) barred
    → (v : ℕ) → is_unseen n first barred v ≡ (ltb v n && (eqb (get_or first v 0) 0 && not (mem v excluded)))
unfolding is_unseen
barred_is most n excluded first barred few m v = elim (T-dec (ltb v n)) [
  | yes t ↦ ap (λ (b : Bool). ltb v n && (eqb (get_or first v 0) 0 && b)) (same_tests (eqb (get_or barred v 0) 0) (not (mem v excluded))
      (λ z. (not_mem v excluded).1 (λ i. marked (ltb→lt v n t) i z))
      (λ h. eq-T (m.other v ((not_mem v excluded).0 h) ∙ zeros most.vertices v)))
  | no h ↦ rw (T_false (ltb v n) h)
]
  where
    marked : v < n → In v excluded → T (eqb (get_or barred v 0) 0) → ⊥
    marked l i z = omega (arith, m.named v (omega (arith, length-replicate {A = ℕ} most.vertices 0)) i, eqb→eq (get_or barred v 0) 0 z)

module _ {most : Limits} {p : Plan} {cut first : List ℕ} (l : Left most p cut first) where
  -- a vertex has no mark exactly if it is cut off
  unmarked : (v : ℕ) → (ltb v p.vertices && (eqb (get_or first v 0) 0 && not (mem v p.excluded))) ≡ mem v (cut_off (graph p) cut)
  unmarked v = same_tests _ (mem v (cut_off (graph p) cut)) to from
    where
      to : T (ltb v p.vertices && (eqb (get_or first v 0) 0 && not (mem v p.excluded))) → T (mem v (cut_off (graph p) cut))
      to t =
          let (low, rest) = and_both (ltb v p.vertices) _ t in
          let (unseen, kept) = and_both (eqb (get_or first v 0) 0) (not (mem v p.excluded)) rest in
          let below = ltb→lt v p.vertices low in
          let vertex = (is_vertex_lem (graph p) v).1 ((vertex_is p v).1 (below, (not_mem v p.excluded).0 kept)) in
          elim (T-dec (mem v (cut_off (graph p) cut))) [
            | yes i ↦ i
            | no n ↦ absurd (T_not (eqb (get_or first v 0) 0) (subst T (sym (l.marks v below)) (both_and (is_vertex (graph p) v) _ vertex (not_T (mem v (cut_off (graph p) cut)) n))) unseen)
          ]

      from : T (mem v (cut_off (graph p) cut)) → T (ltb v p.vertices && (eqb (get_or first v 0) 0 && not (mem v p.excluded)))
      from i =
          let (below, kept) = (vertex_is p v).0 (cut_off_vertex (graph p) cut (mem_in v (cut_off (graph p) cut) i)) in
          let unseen : T (eqb (get_or first v 0) 0) = elim (T-dec (eqb (get_or first v 0) 0)) [
            | yes z ↦ z
            | no n ↦ absurd (T_not (mem v (cut_off (graph p) cut)) (and_both (is_vertex (graph p) v) _ (subst T (l.marks v below) (not_T (eqb (get_or first v 0) 0) n))).1 i)
          ] in
          both_and (ltb v p.vertices) _ (lt→ltb v p.vertices below) (both_and (eqb (get_or first v 0) 0) _ unseen ((not_mem v p.excluded).1 kept))

  -- so what is packed is what falls
  pub packed-falls : (r : Fallen) → Packed most p.vertices p.excluded first r → r ≡ fallen_by most p cut
  unfolding marks_of
  packed-falls r k =
      let words : r.words ≡ fallen most (graph p) cut = k.words ∙ words_same unmarked 0 (words_for most) in
      let count : r.count ≡ length (cut_off (graph p) cut) = k.count ∙ rw words (fallen-count most (graph p) (omega (arith, bound_is p, l.admitted.vertices)) cut) in
      ap₂ (λ (w : List ℕ) (c : ℕ). record { words = w; count = c }) words count

module _ (most : Limits) (p : Plan) (cut : List ℕ) where
  pub removed_refused : {a : code.Answer} → (Admitted most p → ⊥) → a ≡ told_by (admission most p) → Err a ≡ removed_by most p cut
  unfolding removed_after
  removed_refused h q = rw (q, ne_eqb (admission most p).number 0 (λ z. h ((admission_number most p).0 z)))

  pub removed_served : {f : Fallen} → Admitted most p → f ≡ fallen_by most p cut → Ok f ≡ removed_by most p cut
  unfolding removed_after
  removed_served a q = rw ((admission_is most p).1 a, q)

-- What an answer says of an admitted plan.

module _ {most : Limits} {p : Plan} (a : Admitted most p) (cut : List ℕ) {r : Removed} (q : r ≡ removed_by most p cut) where
  pub removed_falls : r ≡ Ok (fallen_by most p cut)
  unfolding removed_after
  removed_falls = rw (q, (admission_is most p).1 a)

  -- so it is no refusal
  pub never_refused : {x : code.Answer} {P : Type 0} → r ≡ Err x → P
  never_refused {x} h = let z : Ok (fallen_by most p cut) ≡ Err x = sym removed_falls ∙ h in absurd (cc)

  pub removed_fallen : {f : Fallen} → r ≡ Ok f → f ≡ fallen_by most p cut
  removed_fallen {f} h = let z : Ok f ≡ Ok (fallen_by most p cut) = sym h ∙ removed_falls in cc

  -- the set disconnects exactly where some mark is set
  pub removed_parts : {f : Fallen} → r ≡ Ok f → disconnects (graph p) cut ≡ not (eqb f.count 0)
  removed_parts h = rw (removed_fallen h) (fallen_parts (graph p) cut)
