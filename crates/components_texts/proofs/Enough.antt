-- How long the text of the groups is: a line of two columns for each vertex that is kept, so that space for these is enough and 6 never occurs.
use Rattle.std.specs.Prelude.{Err, Ok}
use mathlib.Core.Path.{◌≡◌, refl, ap, ◌∙◌}
use mathlib.Core.List.{List, [], ◌∷◌}
use Prim.Native.Nat.{ℕ, ◌*◌, ◌≤◌}
use native.Mathlib.Omega.{arith}
use native.Mathlib.Nat.{suc-mul, mul-le-mul_right}
use lib.ListN.{length, length-append}
use Rattle.connectivity.specs.Plan.{Plan, graph, Limits}
use Rattle.connectivity.specs.Graph.{Graph, vertices}
use Rattle.connectivity.specs.Component.{component_of}
use Rattle.connectivity.specs.Admission.{kept_vertices}
use Rattle.connectivity.proofs.Kept.{admitted_count}
use Rattle.text.specs.Column.{line, line_size}
use Rattle.text.specs.Plan.{PlanReading, Writing}
use Rattle.text.proofs.Laws.{length-line}
use Rattle.text.proofs.Writing.{text_written}
use Rattle.text_write.specs.Entry.{bytes_handed}
use Rattle.text_write.specs.Entry.{Written}
use Rattle.text_write.proofs.Result.{bytes_told}
use Rattle.verify_texts.specs.Texts.{plan_in}
use Rattle.verify_texts.proofs.Stored.{planned}
use Rattle.components_texts.specs.Groups.{group_lines, groups_text, text_of, write_groups, WritesGroups}

length-groups : (ws : List ℕ) (g : Graph) (l : List ℕ) → length (group_lines ws g l) ≡ length l * line_size ws 2
unfolding group_lines
length-groups ws g [] = omega arith
length-groups ws g (v ∷ l) =
    let pair = v ∷ (component_of g v ∷ []) in
    omega (arith, length-append (line ws pair) (group_lines ws g l), length-line ws pair, length-groups ws g l, suc-mul (length l) (line_size ws 2))

-- of a plan
pub length_text : (ws : List ℕ) (p : Plan) → length (groups_text ws (graph p)) ≡ kept_vertices p * line_size ws 2
unfolding groups_text
length_text ws p = length-groups ws (graph p) (vertices (graph p))

module _ (ws : List ℕ) (most : ℕ) (limits : Limits) (one : 1 ≤ limits.vertices) (plan : List ℕ) where
  abbrev text : List ℕ
  text = text_of ws (plan_in ws most limits plan)

  longest : length text ≤ limits.vertices * line_size ws 2
  unfolding text_of
  longest = go (plan_in ws most limits plan) refl
    where
      go : (x : PlanReading) → plan_in ws most limits plan ≡ x → length (text_of ws x) ≤ limits.vertices * line_size ws 2
      go (PlanReading.refused a) q = omega (arith, length-line ws (a.number ∷ []), mul-le-mul_right (line_size ws 2) one)
      go (PlanReading.read p) q =
          let a = planned ws most limits plan q in
          let few : kept_vertices p ≤ limits.vertices = omega (arith, admitted_count a, a.vertices) in
          omega (arith, length_text ws p, mul-le-mul_right (line_size ws 2) few)

  -- 6 never occurs
  pub enough : (space : ℕ) → limits.vertices * line_size ws 2 ≤ space → write_groups ws most limits plan space ≡ Writing.written text
  unfolding write_groups
  enough space h = text_written text space (omega (arith, longest))

  pub bytes_fit : {before after : List ℕ} {r : Written} {count : ℕ} → WritesGroups ws most limits plan before after r
      → limits.vertices * line_size ws 2 ≤ length before → r ≡ Ok count → count ≤ limits.vertices * line_size ws 2
  bytes_fit {before = before} w h q =
      let (bytes, same, long) = bytes_told (Writing.written text) (w.answer ∙ ap bytes_handed (enough (length before) h)) q in
      let is : length bytes ≡ length text = cc in
      omega (arith, longest)
