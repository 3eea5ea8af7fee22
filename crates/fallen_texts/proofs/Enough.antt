-- How long the text of what falls is: a line for their number and one for each vertex but the lowest at most, so that space for these is enough
-- and 6 never occurs.
use Rattle.std.specs.Prelude.{Ok}
use mathlib.Core.Path.{◌≡◌, refl, ap, ◌∙◌}
use mathlib.Core.Bool.{not}
use mathlib.Core.List.{List, Memᴰ as In}
use Prim.Native.Nat.{ℕ, ◌+◌, ◌*◌, ◌/◌, ◌≤◌}
use native.Mathlib.Omega.{arith}
use native.Mathlib.Nat.{mul-le-mul_right}
use lib.ListN.{length}
use Rattle.connectivity.specs.Lists.{keep, mem}
use Rattle.connectivity.specs.Plan.{Plan, graph, Limits}
use Rattle.connectivity.specs.Graph.{vertices}
use Rattle.connectivity.specs.Reach.{here}
use Rattle.connectivity.specs.Cut.{cut_off}
use Rattle.connectivity.specs.Admission.{kept_vertices, kept_edges, Admitted}
use Rattle.connectivity.specs.Verdict.{Verdict, refused, weak, firm, verdict}
use Rattle.connectivity.specs.Fallen.{fall_with}
use Rattle.connectivity.proofs.Lists.{keep_is, keep-length, mem_in, in_mem, not_mem, not_empty, empty-none}
use Rattle.connectivity.proofs.Search.{vertices_are}
use Rattle.connectivity.proofs.Order.{ordered_same, ordered_keep, ordered_vertices}
use Rattle.connectivity.proofs.Kept.{two_kept, admitted_count}
use Rattle.connectivity.proofs.CutOff.{cut_off_not}
use Rattle.connectivity.proofs.Fallen.{ordered_cut_off, cut_off_vertex}
use Rattle.text.specs.Column.{line_size, lines}
use Rattle.text.specs.Plan.{PlanReading, Writing}
use Rattle.text.proofs.Writing.{length_whole, in_columns, text_written}
use Rattle.text_write.specs.Entry.{bytes_handed}
use Rattle.text_write.specs.Entry.{Written}
use Rattle.text_write.proofs.Result.{bytes_told}
use Rattle.verify_texts.specs.Texts.{plan_in}
use Rattle.verify_texts.proofs.Stored.{planned}
use Rattle.fallen_texts.specs.Falls.{numbers_of, write_fallen, WritesFallen}

-- The lowest vertex never falls.

module _ {most : Limits} {p : Plan} (a : Admitted most p) where
  -- what is cut off is what is kept of the vertices, and the lowest one is not in it
  cut_few : (cut : List ℕ) → length (cut_off (graph p) cut) + 1 ≤ kept_vertices p
  cut_few cut =
      let off = cut_off (graph p) cut in
      let t = two_kept a in
      let stays : In t.low (keep (λ v. not (mem v off)) (vertices (graph p))) = (keep_is (λ v. not (mem v off)) t.low (vertices (graph p))).1
      ((vertices_are (graph p) t.low).1 t.lowest.vertex, (not_mem t.low off).1 (λ i. (cut_off_not t.lowest cut i).1 here)) in
      let same : keep (λ v. mem v off) (vertices (graph p)) ≡ off = ordered_same _ off (ordered_keep _ (ordered_vertices (graph p))) (ordered_cut_off (graph p) cut)
      (λ x i. mem_in x off ((keep_is (λ v. mem v off) x (vertices (graph p))).0 i).1)
      (λ x i. (keep_is (λ v. mem v off) x (vertices (graph p))).1 ((vertices_are (graph p) x).1 (cut_off_vertex (graph p) cut i), in_mem i)) in
      omega (arith, ap length same, keep-length (λ v. mem v off) (vertices (graph p)), not_empty (keep (λ v. not (mem v off)) (vertices (graph p))) (λ e. empty-none _ e stays))

  fall_few : (v : Verdict) → length (fall_with (graph p) v) + 1 ≤ kept_vertices p
  unfolding fall_with
  fall_few (weak cut) = cut_few cut
  fall_few firm = omega (arith, a.remain)
  fall_few (refused x) = omega (arith, a.remain)

module _ (ws : List ℕ) (most : ℕ) (limits : Limits) (one : 1 ≤ limits.vertices) (plan : List ℕ) where
  abbrev list : List ℕ
  list = numbers_of limits (plan_in ws most limits plan)

  abbrev text : List ℕ
  text = lines ws 1 (length list / 1) list

  few : length list ≤ limits.vertices
  unfolding numbers_of
  few = go (plan_in ws most limits plan) refl
    where
      go : (x : PlanReading) → plan_in ws most limits plan ≡ x → length (numbers_of limits x) ≤ limits.vertices
      go (PlanReading.refused a) q = one
      go (PlanReading.read p) q =
          let a = planned ws most limits plan q in
          omega (arith, fall_few a (verdict limits p (3 * kept_edges p)), admitted_count a, a.vertices)

  longest : length text ≤ limits.vertices * line_size ws 1
  longest =
      let n : length list / 1 ≡ length list = omega arith in
      omega (arith, length_whole ws 1 list, ap (λ (m : ℕ). m * line_size ws 1) n, mul-le-mul_right (line_size ws 1) few)

  -- 6 never occurs
  pub enough : (space : ℕ) → limits.vertices * line_size ws 1 ≤ space → write_fallen ws most limits plan space ≡ Writing.written text
  unfolding write_fallen
  enough space h = in_columns ws 1 list space (omega arith) (omega arith) ∙ text_written text space (omega (arith, longest))

  pub bytes_fit : {before after : List ℕ} {r : Written} {count : ℕ} → WritesFallen ws most limits plan before after r
      → limits.vertices * line_size ws 1 ≤ length before → r ≡ Ok count → count ≤ limits.vertices * line_size ws 1
  bytes_fit {before = before} w h q =
      let (bytes, same, long) = bytes_told (Writing.written text) (w.answer ∙ ap bytes_handed (enough (length before) h)) q in
      let is : length bytes ≡ length text = cc in
      omega (arith, longest)
