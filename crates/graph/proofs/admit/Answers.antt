-- `admit` meets its contract: 18, then 19, and the counts of what is kept.
use Rattle.std.specs.Prelude.{Err}
use mathlib.Core.Path.{◌≡◌, sym, ap, ◌∙◌}
use mathlib.Core.List.{[], ◌∷◌}
use Prim.Native.Nat.{ℕ, ◌-◌, ◌/◌}
use lib.ListN.{length}
use Rattle.connectivity.specs.Plan.{plan, limits}
use Rattle.connectivity.specs.Admission.{served, kept_vertices}
use Rattle.graph.specs.declared.Answer.{Answer}
use Rattle.graph.specs.Admission.{handed}
use Rattle.graph.proofs.Laws.{fallen, kept_left, too_bare, is_admitted, fits}
use native.Mathlib.Omega.{arith}
use Rattle.graph.proofs.admit.Goals as goal

pub returns-then-number-ne0 : goal.returns-then-number-ne0
returns-then-number-ne0 c = let e = c.judge_excluded-rising.ensures in let same = ap (λ (a : Answer). a.number) e in ap (λ (a : Answer). handed (Err a)) e ∙ sym (fallen limits _ c.requires (omega arith))

pub overflow_cast-kept : goal.overflow_cast-kept
overflow_cast-kept c =
    let same = ap (λ (a : Answer). a.number) c.judge_excluded-rising.ensures in
    omega (arith, kept_left limits _ c.requires (omega arith), c.ranges.vertices)

pub overflow_sub-kept : goal.overflow_sub-kept
overflow_sub-kept c =
    let same = ap (λ (a : Answer). a.number) c.judge_excluded-rising.ensures in
    omega (arith, kept_left limits _ c.requires (omega arith))

pub returns-then-kept-lt2 : goal.returns-then-kept-lt2
returns-then-kept-lt2 c = let same = ap (λ (a : Answer). a.number) c.judge_excluded-rising.ensures in ap handed c.refused.ensures ∙ sym (too_bare limits _ c.requires (omega arith) (omega (arith, kept_left limits _ c.requires (omega arith))))

pub count_kept-requires : goal.count_kept-requires
count_kept-requires c = let same = ap (λ (a : Answer). a.number) c.judge_excluded-rising.ensures in is_admitted limits _ c.requires (omega arith) (omega (arith, kept_left limits _ c.requires (omega arith)))

pub returns : goal.returns
returns c =
    let same = ap (λ (a : Answer). a.number) c.judge_excluded-rising.ensures in
    let p = c.args in
    let l = c.requires in
    let left = kept_left limits _ l (omega arith) in
    let kept : p.vertices - length p.excluded.now ≡ kept_vertices (plan p.vertices p.ends.now p.excluded.now) = omega (arith, left) in
    ap (λ (x : ℕ). served (p.vertices ∷ (length p.ends.now / 2 ∷ (x ∷ (c.count_kept.result ∷ []))))) kept
    ∙ ap (λ (x : ℕ). served (p.vertices ∷ (length p.ends.now / 2 ∷ (kept_vertices (plan p.vertices p.ends.now p.excluded.now) ∷ (x ∷ []))))) c.count_kept.ensures
    ∙ sym (fits limits _ l (omega arith) (omega (arith, left)))
