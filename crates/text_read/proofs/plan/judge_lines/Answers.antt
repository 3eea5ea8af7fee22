-- `judge_lines` meets its contract: each way out cites the law for its tests.
use mathlib.Core.Path.{◌≡◌, sym, ap, ◌∙◌}
use mathlib.Core.Bool.{true}
use mathlib.Core.List.{List}
use Prim.Native.Nat.{ℕ, ◌+◌, ◌*◌}
use native.Mathlib.Omega.{arith}
use lib.ListN.{length, drop, length-drop}
use lib.Seq.{drop-drop}
use Rattle.connectivity.specs.Plan.{Plan}
use Rattle.connectivity.specs.Admission.{ends_answer, excluded_answer}
use Rattle.graph.specs.Admission.{told_by}
use Rattle.graph.specs.declared.Answer.{Answer}
use Rattle.text.specs.Column.{five, largest, line_size, lines_begin, behind_lines}
use Rattle.text.specs.Plan.{listed_answer}
use Rattle.text.proofs.Reading.{length-lines-numbers}
use Rattle.text_read.specs.Header.{edge_lines_answer, excluded_lines_answer, lines_answer}
use Rattle.text_read.proofs.Edges.{drawn, other_length, edges_unread, edges-read, excluded_unread, excluded_read, ends_refused, excluded_refused, few_kept, two_kept}
use Rattle.text_read.proofs.plan.judge_lines.Goals as goal

number : {x y : Answer} → x ≡ y → x.number ≡ y.number
number p = ap (λ (z : Answer). z.number) p

pub overflow_mul-excluded : goal.overflow_mul-excluded
overflow_mul-excluded c = omega (arith, c.ranges.vertices)

pub overflow_add-edges : goal.overflow_add-edges
overflow_add-edges c = omega (arith, c.ranges.vertices)

pub returns-then-text-at : goal.returns-then-text-at
returns-then-text-at c =
    let txt : List ℕ = drop c.args.at c.args.text.now in
    let a = c.args in
    c.number_alone.ensures
    ∙ sym (ap told_by (other_length five largest a.vertices a.edges a.excluded txt (λ z. omega (arith, c.if-text-at.true, length-drop a.at a.text.now))))

pub judge_edges-fit-requires : goal.judge_edges-fit-requires
judge_edges-fit-requires c = omega (arith, c.if-text-at.false)

pub returns-then-first-eq7 : goal.returns-then-first-eq7
returns-then-first-eq7 c =
    let txt : List ℕ = drop c.args.at c.args.text.now in
    let a = c.args in
    let e = c.judge_edges-fit.ensures in
    e ∙ sym (ap told_by (edges_unread five largest a.vertices a.edges a.excluded txt (sym (number e) ∙ c.if-first-eq7.true)))

pub overflow_add-at : goal.overflow_add-at
overflow_add-at c = omega (arith, c.if-text-at.false)

pub judge_excluded-rising-requires : goal.judge_excluded-rising-requires
judge_excluded-rising-requires c = omega (arith, c.if-text-at.false)

pub returns-then-second-eq7 : goal.returns-then-second-eq7
returns-then-second-eq7 c =
    let txt : List ℕ = drop c.args.at c.args.text.now in
    let exact : length txt ≡ c.args.edges * line_size five 2 + c.args.excluded * line_size five 1 = let a = c.args in omega (arith, c.if-text-at.false, length-drop a.at a.text.now) in
    let listed : Plan = let a = c.args in drawn five largest a.vertices a.edges a.excluded txt in
    let edged : let a = c.args in (lines_begin five largest 2 a.edges txt ≡ true) × (edge_lines_answer five largest a.vertices 0 a.edges txt ≡ ends_answer a.vertices 0 listed.ends) = let a = c.args in
    edges-read five largest a.vertices a.edges a.excluded txt (λ z. c.if-first-eq7.false (number c.judge_edges-fit.ensures ∙ z)) in
    let risen : let a = c.args in c.judge_excluded-rising.result ≡ told_by (excluded_lines_answer five largest a.vertices 0 0 a.excluded (behind_lines five 2 a.edges txt)) = let a = c.args in
    c.judge_excluded-rising.ensures ∙ ap (λ (l : List ℕ). told_by (excluded_lines_answer five largest a.vertices 0 0 a.excluded l)) (sym (drop-drop (a.edges * line_size five 2) a.at a.text.now)) in
    let a = c.args in
    let e = risen in
    e ∙ sym (ap told_by (excluded_unread five largest a.vertices a.edges a.excluded txt edged.0 exact (sym (number e) ∙ c.if-second-eq7.true)))

pub returns-then-first-ne0 : goal.returns-then-first-ne0
returns-then-first-ne0 c =
    let txt : List ℕ = drop c.args.at c.args.text.now in
    let listed : Plan = let a = c.args in drawn five largest a.vertices a.edges a.excluded txt in
    let exact : length txt ≡ c.args.edges * line_size five 2 + c.args.excluded * line_size five 1 = let a = c.args in omega (arith, c.if-text-at.false, length-drop a.at a.text.now) in
    let edged : let a = c.args in (lines_begin five largest 2 a.edges txt ≡ true) × (edge_lines_answer five largest a.vertices 0 a.edges txt ≡ ends_answer a.vertices 0 listed.ends) = let a = c.args in
    edges-read five largest a.vertices a.edges a.excluded txt (λ z. c.if-first-eq7.false (number c.judge_edges-fit.ensures ∙ z)) in
    let risen : let a = c.args in c.judge_excluded-rising.result ≡ told_by (excluded_lines_answer five largest a.vertices 0 0 a.excluded (behind_lines five 2 a.edges txt)) = let a = c.args in
    c.judge_excluded-rising.ensures ∙ ap (λ (l : List ℕ). told_by (excluded_lines_answer five largest a.vertices 0 0 a.excluded l)) (sym (drop-drop (a.edges * line_size five 2) a.at a.text.now)) in
    let both : let a = c.args in (lines_answer five largest a.vertices a.edges a.excluded txt ≡ listed_answer listed) × (c.judge_excluded-rising.result ≡ told_by (excluded_answer a.vertices 0 0 listed.excluded)) × (c.judge_edges-fit.result ≡ told_by (ends_answer a.vertices 0 listed.ends)) = let a = c.args in
    let e = risen in
    let x = excluded_read five largest a.vertices a.edges a.excluded txt edged.0 exact (λ z. c.if-second-eq7.false (number e ∙ z)) in
    (x.0, e ∙ ap told_by x.1, c.judge_edges-fit.ensures ∙ ap told_by edged.1) in
    let b = both in
    b.2 ∙ sym (ap told_by (b.0 ∙ ends_refused listed (λ z. c.if-first-ne0.true (number b.2 ∙ z))))

pub returns-then-second-ne0 : goal.returns-then-second-ne0
returns-then-second-ne0 c =
    let txt : List ℕ = drop c.args.at c.args.text.now in
    let listed : Plan = let a = c.args in drawn five largest a.vertices a.edges a.excluded txt in
    let exact : length txt ≡ c.args.edges * line_size five 2 + c.args.excluded * line_size five 1 = let a = c.args in omega (arith, c.if-text-at.false, length-drop a.at a.text.now) in
    let edged : let a = c.args in (lines_begin five largest 2 a.edges txt ≡ true) × (edge_lines_answer five largest a.vertices 0 a.edges txt ≡ ends_answer a.vertices 0 listed.ends) = let a = c.args in
    edges-read five largest a.vertices a.edges a.excluded txt (λ z. c.if-first-eq7.false (number c.judge_edges-fit.ensures ∙ z)) in
    let risen : let a = c.args in c.judge_excluded-rising.result ≡ told_by (excluded_lines_answer five largest a.vertices 0 0 a.excluded (behind_lines five 2 a.edges txt)) = let a = c.args in
    c.judge_excluded-rising.ensures ∙ ap (λ (l : List ℕ). told_by (excluded_lines_answer five largest a.vertices 0 0 a.excluded l)) (sym (drop-drop (a.edges * line_size five 2) a.at a.text.now)) in
    let both : let a = c.args in (lines_answer five largest a.vertices a.edges a.excluded txt ≡ listed_answer listed) × (c.judge_excluded-rising.result ≡ told_by (excluded_answer a.vertices 0 0 listed.excluded)) × (c.judge_edges-fit.result ≡ told_by (ends_answer a.vertices 0 listed.ends)) = let a = c.args in
    let e = risen in
    let x = excluded_read five largest a.vertices a.edges a.excluded txt edged.0 exact (λ z. c.if-second-eq7.false (number e ∙ z)) in
    (x.0, e ∙ ap told_by x.1, c.judge_edges-fit.ensures ∙ ap told_by edged.1) in
    let fit : (ends_answer c.args.vertices 0 listed.ends).number ≡ 0 = sym (number both.2) ∙ c.if-first-ne0.false in
    let b = both in
    b.1 ∙ sym (ap told_by (b.0 ∙ excluded_refused listed fit (λ z. c.if-second-ne0.true (number b.1 ∙ z))))

pub returns-then-vertices-excluded-lt2 : goal.returns-then-vertices-excluded-lt2
returns-then-vertices-excluded-lt2 c =
    let txt : List ℕ = drop c.args.at c.args.text.now in
    let listed : Plan = let a = c.args in drawn five largest a.vertices a.edges a.excluded txt in
    let exact : length txt ≡ c.args.edges * line_size five 2 + c.args.excluded * line_size five 1 = let a = c.args in omega (arith, c.if-text-at.false, length-drop a.at a.text.now) in
    let edged : let a = c.args in (lines_begin five largest 2 a.edges txt ≡ true) × (edge_lines_answer five largest a.vertices 0 a.edges txt ≡ ends_answer a.vertices 0 listed.ends) = let a = c.args in
    edges-read five largest a.vertices a.edges a.excluded txt (λ z. c.if-first-eq7.false (number c.judge_edges-fit.ensures ∙ z)) in
    let risen : let a = c.args in c.judge_excluded-rising.result ≡ told_by (excluded_lines_answer five largest a.vertices 0 0 a.excluded (behind_lines five 2 a.edges txt)) = let a = c.args in
    c.judge_excluded-rising.ensures ∙ ap (λ (l : List ℕ). told_by (excluded_lines_answer five largest a.vertices 0 0 a.excluded l)) (sym (drop-drop (a.edges * line_size five 2) a.at a.text.now)) in
    let both : let a = c.args in (lines_answer five largest a.vertices a.edges a.excluded txt ≡ listed_answer listed) × (c.judge_excluded-rising.result ≡ told_by (excluded_answer a.vertices 0 0 listed.excluded)) × (c.judge_edges-fit.result ≡ told_by (ends_answer a.vertices 0 listed.ends)) = let a = c.args in
    let e = risen in
    let x = excluded_read five largest a.vertices a.edges a.excluded txt edged.0 exact (λ z. c.if-second-eq7.false (number e ∙ z)) in
    (x.0, e ∙ ap told_by x.1, c.judge_edges-fit.ensures ∙ ap told_by edged.1) in
    let fit : (ends_answer c.args.vertices 0 listed.ends).number ≡ 0 = sym (number both.2) ∙ c.if-first-ne0.false in
    let rise : (excluded_answer c.args.vertices 0 0 listed.excluded).number ≡ 0 = sym (number both.1) ∙ c.if-second-ne0.false in
    let long : length listed.excluded ≡ c.args.excluded = let a = c.args in omega (arith, length-lines-numbers five 1 a.excluded (behind_lines five 2 a.edges txt)) in
    c.number_alone-then-vertices-excluded-lt2.ensures ∙ sym (ap told_by (both.0 ∙ few_kept listed fit rise (omega (arith, long, c.if-vertices-excluded-lt2.true, c.requires.2))))

pub returns : goal.returns
returns c =
    let txt : List ℕ = drop c.args.at c.args.text.now in
    let listed : Plan = let a = c.args in drawn five largest a.vertices a.edges a.excluded txt in
    let exact : length txt ≡ c.args.edges * line_size five 2 + c.args.excluded * line_size five 1 = let a = c.args in omega (arith, c.if-text-at.false, length-drop a.at a.text.now) in
    let edged : let a = c.args in (lines_begin five largest 2 a.edges txt ≡ true) × (edge_lines_answer five largest a.vertices 0 a.edges txt ≡ ends_answer a.vertices 0 listed.ends) = let a = c.args in
    edges-read five largest a.vertices a.edges a.excluded txt (λ z. c.if-first-eq7.false (number c.judge_edges-fit.ensures ∙ z)) in
    let risen : let a = c.args in c.judge_excluded-rising.result ≡ told_by (excluded_lines_answer five largest a.vertices 0 0 a.excluded (behind_lines five 2 a.edges txt)) = let a = c.args in
    c.judge_excluded-rising.ensures ∙ ap (λ (l : List ℕ). told_by (excluded_lines_answer five largest a.vertices 0 0 a.excluded l)) (sym (drop-drop (a.edges * line_size five 2) a.at a.text.now)) in
    let both : let a = c.args in (lines_answer five largest a.vertices a.edges a.excluded txt ≡ listed_answer listed) × (c.judge_excluded-rising.result ≡ told_by (excluded_answer a.vertices 0 0 listed.excluded)) × (c.judge_edges-fit.result ≡ told_by (ends_answer a.vertices 0 listed.ends)) = let a = c.args in
    let e = risen in
    let x = excluded_read five largest a.vertices a.edges a.excluded txt edged.0 exact (λ z. c.if-second-eq7.false (number e ∙ z)) in
    (x.0, e ∙ ap told_by x.1, c.judge_edges-fit.ensures ∙ ap told_by edged.1) in
    let fit : (ends_answer c.args.vertices 0 listed.ends).number ≡ 0 = sym (number both.2) ∙ c.if-first-ne0.false in
    let rise : (excluded_answer c.args.vertices 0 0 listed.excluded).number ≡ 0 = sym (number both.1) ∙ c.if-second-ne0.false in
    let long : length listed.excluded ≡ c.args.excluded = let a = c.args in omega (arith, length-lines-numbers five 1 a.excluded (behind_lines five 2 a.edges txt)) in
    c.number_alone-2.ensures ∙ sym (ap told_by (both.0 ∙ two_kept listed fit rise (omega (arith, long, c.if-vertices-excluded-lt2.false, c.requires.2))))
