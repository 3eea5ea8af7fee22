-- A try of one cut: a search from an end of one of its edges marks what that reaches without the cut, and the groups are taken apart by it.
use mathlib.Core.Path.{◌≡◌, sym, ap, ◌∙◌, subst}
use mathlib.Core.Logic.{inl, inr}
use mathlib.Core.Bool.{Bool, not, cond}
use mathlib.Core.List.{List, [], ◌∷◌}
use Prim.Native.Nat.{ℕ, ◌+◌, ◌*◌, ◌/◌, ◌≤◌, ◌<◌}
use native.Mathlib.Omega.{arith}
use native.Mathlib.Decide.{ℕ_discrete}
use lib.Dec.{eqb}
use lib.ListN.{length, get_or, replicate}
use borrow.Author.Tests.{eq-eqb, ne_eqb}
use Rattle.connectivity.specs.Plan.{Plan, entire, graph, Limits}
use Rattle.connectivity.specs.Graph.{Vertex, Edge, Joins}
use Rattle.connectivity.specs.Reach.{Reach, Without}
use Rattle.connectivity.specs.Admission.{Admitted}
use Rattle.connectivity.proofs.Kept.{vertex_size, admitted_entire}
use Rattle.graph.specs.Marks.{read}
use Rattle.graph.specs.Excluded.{Masked}
use Rattle.graph.specs.Tells.{Tells}
use Rattle.graph.proofs.Joined.{joins_below}
use Rattle.incidence.specs.Tables.{Tabled}
use Rattle.depth.specs.Depth.{Cutting}
use Rattle.depth.specs.Depth as depth
use Rattle.depth.specs.Depth.{Explored}
use Rattle.depth.proofs.Left.{fresh_at, seen, marked}
use Rattle.depth.proofs.Masking.{found_kept}
use Rattle.depth.proofs.Outcomes.{seen_found, tabled_enough}
use Rattle.labels.specs.Labels.{Masks}
use Rattle.labels.proofs.Masks.{masks_live, masks_masking, masked_made}
use Rattle.cuts.specs.Tries.{EndOf}
use Rattle.cuts.proofs.Trying.{both, both_long, cutting}
use Rattle.components.specs.Splitting.{unseen}
use Rattle.components.specs.Stars.{Attempt}
use Rattle.components.specs.Stars as stars
use Rattle.graph.specs.Ends.{far_end}
use Rattle.components.specs.Tries.{PartedAt}
use Rattle.components.specs.Tries as tries

-- an edge joins each of its ends to the other
joins_far : {most : Limits} (p : Plan) {d root : ℕ} → Admitted most p → Edge (graph p) d → EndOf p.ends d root → Joins (graph p) d root (far_end p.ends d root)
unfolding graph
joins_far p {d} {root} a k e = record {
  edge = k;
  ends = elim e [ inl q ↦ inl (sym q, sym (chosen (eq-eqb left root (sym q)))) | inr q ↦ inr (sym (chosen (ne_eqb left root (λ z. (a.fit d k.below).different (z ∙ q)))), sym q) ];
}
  where
    left : ℕ
    left = get_or p.ends (2 * d) 0

    right : ℕ
    right = get_or p.ends (2 * d + 1) 0

    chosen : {t : Bool} → eqb left root ≡ t → cond (eqb left root) right left ≡ cond t right left
    chosen z = ap (λ (t : Bool). cond t right left) z

-- so the far end is below the count
pub far_below : {most : Limits} {p : Plan} → Admitted most p → {d : ℕ} → Edge (graph p) d → {root far : ℕ} → EndOf p.ends d root → far ≡ far_end p.ends d root → far < p.vertices
far_below {p = p} a k q z = rw z (joins_below p (joins_far p a k q))

-- the search marks what the root reaches
pub searched : {most : Limits} {p : Plan} {incident begins dead₀ dead marks₀ marks order₀ order cursor₀ cursor : List ℕ} {e d root : ℕ} {r : Explored} → Tabled most p incident begins
    → e < length p.ends / 2 → d < length p.ends / 2 → Vertex (graph p) root → Masked most p.ends p.excluded (replicate most.edges 0) dead₀ → p.vertices ≤ length marks₀
    → p.vertices ≤ length order₀ → p.vertices ≤ length cursor₀ → ((v : ℕ) → v < p.vertices → get_or marks₀ v 0 ≡ 0) → dead ≡ both dead₀ e d 1
    → depth.Answered most (entire p.vertices p.ends) incident begins dead root 0 marks₀ order₀ cursor₀ marks order cursor r
    → (v : ℕ) → v < p.vertices → Tells (not (unseen marks v)) (Reach (graph p) (Without (e ∷ (d ∷ []))) root v)
searched {most} {p} {incident} {begins} {dead₀} {dead} {marks₀} {marks} {order₀} {order} {cursor₀} {cursor} {e} {d} {root} {r} t h l b z mr or cr clear k a v i =
    elim (ℕ_discrete (get_or marks v 0) 0) [
      | yes q ↦ rw (eq-eqb (get_or marks v 0) 0 q) (λ w. marked t f.1 cuts clear b v w q)
      | no n ↦ rw (ne_eqb (get_or marks v 0) 0 n) (seen t f.1 cuts clear b v i n)
    ]
  where
    m : Masks p dead₀
    m = masked_made t.admitted z

    cuts : Cutting p (e ∷ (d ∷ [])) (read dead)
    cuts = rw k (cutting dead₀ e d (omega (arith, m.room)) (omega (arith, m.room)) p (masks_masking m) (masks_live m))

    f : (count : ℕ) × depth.Found (depth.Crossing p incident begins dead) p.vertices root 0 marks₀ order₀ cursor₀ marks order cursor count
    f = let s = seen_found most (entire p.vertices p.ends) incident begins dead root 0 marks₀ order₀ cursor₀ marks order cursor r (admitted_entire t.admitted)
        (tabled_enough t (omega (arith, ap length k ∙ both_long dead₀ e d 1, m.room)) mr or cr) (fresh_at p.vertices root marks₀ (vertex_size p b) clear) a in
        (s.0, found_kept p cuts.masking s.2)

-- the whole try
pub attempted : {most : Limits} {p : Plan} {e d root far : ℕ} {r : Bool} {marks table₀ table : List ℕ} → Admitted most p → Edge (graph p) d
    → ((v : ℕ) → v < p.vertices → Tells (not (unseen marks v)) (Reach (graph p) (Without (e ∷ (d ∷ []))) root v))
    → EndOf p.ends d root → far ≡ far_end p.ends d root → PartedAt p.vertices marks far table₀ table r → Attempt (graph p) p.vertices (e ∷ (d ∷ [])) d table₀ table r
attempted {p = p} {e = e} {d = d} {root = root} {far = far} {marks = marks} a l tells q z (tries.seen n same) =
    stars.joined same root far (rw z (joins_far p a l q)) (subst (λ (t : Bool). Tells (not t) (Reach (graph p) (Without (e ∷ (d ∷ []))) root far)) (ne_eqb (get_or marks far 0) 0 n) (tells far (far_below a l q z)))
attempted {p = p} {e = e} {d = d} {root = root} {far = far} {marks = marks} a l tells q z (tries.cut_off o long p') =
    stars.parted long root far (rw z (joins_far p a l q)) (subst (λ (t : Bool). Tells (not t) (Reach (graph p) (Without (e ∷ (d ∷ []))) root far)) (eq-eqb (get_or marks far 0) 0 o) (tells far (far_below a l q z))) (unseen marks) tells p'
