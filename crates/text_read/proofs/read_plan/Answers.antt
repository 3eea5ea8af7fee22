-- `read_plan` meets its contract: a refusal is told before anything is stored, and what is stored is the plan that the text lists.
use Rattle.std.specs.Prelude.{Err}
use mathlib.Core.Path.{◌≡◌, refl, sym, ap, ◌∙◌}
use mathlib.Core.List.{List}
use Prim.Native.Nat.{ℕ, ◌+◌, ◌*◌, ◌≤◌}
use native.Mathlib.Omega.{arith}
use lib.ListN.{length}
use Rattle.connectivity.specs.Plan.{limits}
use Rattle.connectivity.specs.Admission.{answer}
use Rattle.graph.specs.Admission.{handed, constructed}
use Rattle.graph.specs.declared.Answer.{Answer}
use Rattle.text.specs.Column.{five, largest}
use Rattle.text.specs.Plan.{PlanReading, header_second, header_third, edge_lines, excluded_lines, spelled, read_answer}
use Rattle.text.proofs.Reading.{length-lines-numbers, no_header, Met, met, read-refused, read-listed}
use Rattle.text.proofs.RoundTrip.{met_admitted}
use Rattle.text_read.specs.Header.{Headed}
use Rattle.text_read.proofs.Headers.{ends_listed, excluded_listed, met_fitting}
use Rattle.text_read.proofs.Result.{reads_plan, parts, admitted_served}
use Rattle.text_read.proofs.read_plan.Goals as goal

number : {x y : Answer} → x ≡ y → x.number ≡ y.number
number p = ap (λ (z : Answer). z.number) p

pub returns-in_default : goal.returns-in_default
returns-in_default c =
    let txt : List ℕ = c.args.text.now in
    let lent : List ℕ = c.args.table.now in
    reads_plan (PlanReading.refused (answer 7 0))
    (read-refused five largest limits txt (length lent) (answer 7 0) (no_header five largest limits txt (length lent) c.in_default.ensures) (λ z. omega arith))
    refl refl

pub returns-then-number-ne0 : goal.returns-then-number-ne0
returns-then-number-ne0 c =
    let txt : List ℕ = c.args.text.now in
    let lent : List ℕ = c.args.table.now in
    let e = c.judge-answer.ensures in
    let a = read_answer five largest limits txt (length lent) in
    reads_plan (PlanReading.refused a)
    (read-refused five largest limits txt (length lent) a refl (λ z. c.if-number-ne0.true (number e ∙ z)))
    (ap (λ (x : Answer). handed (Err x)) e) refl

pub store-requires : goal.store-requires
store-requires c =
    let lent : List ℕ = c.args.table.now in
    let txt : List ℕ = c.args.text.now in
    let headed : Headed five largest txt c.in-Some.header = c.in-Some.ensures in
    let passing : (read_answer five largest limits txt (length lent)).number ≡ 0 = sym (number c.judge-answer.ensures) ∙ c.if-number-ne0.false in
    let tests : Met five largest limits txt (length lent) = met five largest limits txt (length lent) passing in
    let room : let h = c.in-Some.header in 2 * h.edges + h.excluded ≤ length lent = let d = headed in omega (arith, tests.room, d.edges, d.excluded) in
    (met_fitting headed limits (length lent) tests, room)

pub counted-requires : goal.counted-requires
counted-requires c =
    let lent : List ℕ = c.args.table.now in
    let txt : List ℕ = c.args.text.now in
    let headed : Headed five largest txt c.in-Some.header = c.in-Some.ensures in
    let passing : (read_answer five largest limits txt (length lent)).number ≡ 0 = sym (number c.judge-answer.ensures) ∙ c.if-number-ne0.false in
    let tests : Met five largest limits txt (length lent) = met five largest limits txt (length lent) passing in
    let room : let h = c.in-Some.header in 2 * h.edges + h.excluded ≤ length lent = let d = headed in omega (arith, tests.room, d.edges, d.excluded) in
    omega (arith, room, c.store.auto.table)

pub returns : goal.returns
returns c =
    let txt : List ℕ = c.args.text.now in
    let lent : List ℕ = c.args.table.now in
    let headed : Headed five largest txt c.in-Some.header = c.in-Some.ensures in
    let passing : (read_answer five largest limits txt (length lent)).number ≡ 0 = sym (number c.judge-answer.ensures) ∙ c.if-number-ne0.false in
    let tests : Met five largest limits txt (length lent) = met five largest limits txt (length lent) passing in
    let d = headed in
    let h = c.in-Some.header in
    let p = spelled five largest txt in
    let ends : length p.ends ≡ 2 * h.edges = omega (arith, d.edges, length-lines-numbers five 2 (header_second five txt) (edge_lines five largest txt)) in
    let excluded : length p.excluded ≡ h.excluded = omega (arith, d.excluded, length-lines-numbers five 1 (header_third five largest txt) (excluded_lines five largest txt)) in
    let stored = rw (ends_listed d, excluded_listed d) at c.store.ensures in
    reads_plan (PlanReading.read p)
    (read-listed five largest limits txt (length lent) passing)
    (c.counted.ensures ∙ ap (constructed limits) (rw (stored, d.vertices) (parts p lent (2 * h.edges) h.excluded ends excluded)) ∙ admitted_served (met_admitted five largest limits txt (length lent) tests))
    stored
