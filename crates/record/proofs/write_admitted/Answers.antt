-- `write_admitted` meets its contract: 6 for want of room; else the plan's lowest cut, or none and the record written.
use Rattle.std.proofs.Common.{Ok, Err, Some, None, sym, ap, ◌∙◌, rules, ◌≡◌, ◌*◌, ◌≤◌, length, refl, arith}
use Rattle.connectivity.specs.Plan.{plan, limits}
use Rattle.connectivity.specs.Admission.{kept_edges}
use Rattle.cuts.specs.Verdict.{handed, lowest_handed}
use Rattle.record.specs.Recording.{Sturdy}
use Rattle.record.proofs.Answering.{answers_short, answers_cut, answers_firm, sturdy}
use Rattle.record.proofs.Searching.{cut_own, prepared}
use Rattle.record.proofs.write_admitted.Goals as goal

pub returns-then-rows-edges : goal.returns-then-rows-edges
returns-then-rows-edges c =
    answers_short _ _ c.requires.admitted (omega (arith, c.if-rows-edges.true, c.requires.all))

pub returns-in_err-found : goal.returns-in_err-found
returns-in_err-found c =
    let enough : let a = c.args in 3 * kept_edges (plan a.vertices a.ends.now a.excluded.now) ≤ length a.rows.now = omega (arith, c.if-rows-edges.false, c.requires.all) in
    let told : let a = c.args in handed c.lowest_cut.result ≡ lowest_handed limits (plan a.vertices a.ends.now a.excluded.now) = cut_own c.lowest_cut.result c.lowest_cut.ensures in
    let same : c.from_residual.result ≡ Err c.in_err-found.field-0.0 = search rules in
    let was : c.lowest_cut.result ≡ Err c.in_err-found.field-0.0 = c.in_err-found.was in
    let never : c.lowest_cut.result ≡ Ok None → ⊥ = λ n. let z = sym was ∙ n in cc in
    rw same (rw was at (answers_cut _ _ c.requires.admitted enough c.lowest_cut.result told never))

pub returns-in-Some : goal.returns-in-Some
returns-in-Some c =
    let enough : let a = c.args in 3 * kept_edges (plan a.vertices a.ends.now a.excluded.now) ≤ length a.rows.now = omega (arith, c.if-rows-edges.false, c.requires.all) in
    let told : let a = c.args in handed c.lowest_cut.result ≡ lowest_handed limits (plan a.vertices a.ends.now a.excluded.now) = cut_own c.lowest_cut.result c.lowest_cut.ensures in
    let was : c.lowest_cut.result ≡ Ok (Some c.in-Some.cut) = c.in_ok-found.was ∙ ap Ok c.in-Some.is in
    let never : c.lowest_cut.result ≡ Ok None → ⊥ = λ n. let z = sym was ∙ n in cc in
    rw was at (answers_cut _ _ c.requires.admitted enough c.lowest_cut.result told never)

pub overflow_cast-begins : goal.overflow_cast-begins
overflow_cast-begins c = record { fits = omega (arith, c.requires.admitted.edges) }

pub bounds-begins-vertices : goal.bounds-begins-vertices
bounds-begins-vertices c = omega (arith, c.requires.admitted.vertices)

pub build_record-requires : goal.build_record-requires
build_record-requires c =
    let enough : let a = c.args in 3 * kept_edges (plan a.vertices a.ends.now a.excluded.now) ≤ length a.rows.now = omega (arith, c.if-rows-edges.false, c.requires.all) in
    let told : let a = c.args in handed c.lowest_cut.result ≡ lowest_handed limits (plan a.vertices a.ends.now a.excluded.now) = cut_own c.lowest_cut.result c.lowest_cut.ensures in
    let nothing : c.lowest_cut.result ≡ Ok None = c.in_ok-found.was ∙ ap Ok c.in_default.is in
    let strong : let a = c.args in Sturdy limits (plan a.vertices a.ends.now a.excluded.now) (length a.rows.now) = let a = c.args in
    sturdy (plan a.vertices a.ends.now a.excluded.now) a.rows.now c.requires.admitted enough c.lowest_cut.result told nothing in
    prepared c.lowest_cut.ensures nothing strong c.requires.all

pub returns : goal.returns
returns c =
    let enough : let a = c.args in 3 * kept_edges (plan a.vertices a.ends.now a.excluded.now) ≤ length a.rows.now = omega (arith, c.if-rows-edges.false, c.requires.all) in
    let told : let a = c.args in handed c.lowest_cut.result ≡ lowest_handed limits (plan a.vertices a.ends.now a.excluded.now) = cut_own c.lowest_cut.result c.lowest_cut.ensures in
    let nothing : c.lowest_cut.result ≡ Ok None = c.in_ok-found.was ∙ ap Ok c.in_default.is in
    let strong : let a = c.args in Sturdy limits (plan a.vertices a.ends.now a.excluded.now) (length a.rows.now) = let a = c.args in
    sturdy (plan a.vertices a.ends.now a.excluded.now) a.rows.now c.requires.admitted enough c.lowest_cut.result told nothing in
    answers_firm _ _ c.requires.admitted enough c.lowest_cut.result told nothing
    (c.build_record.ensures (prepared c.lowest_cut.ensures nothing strong c.requires.all)) refl
