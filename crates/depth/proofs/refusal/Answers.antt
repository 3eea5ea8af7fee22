-- `refusal` meets its contract: the counts come first, then the lengths.
use mathlib.Core.Path.{◌≡◌, sym, ap, ◌∙◌}
use Rattle.connectivity.specs.Plan.{entire, limits}
use Rattle.connectivity.specs.Admission.{Answer}
use Rattle.depth.proofs.Counts.{refused-counts, refused_short_lem, refused_not, enough_places}
use Rattle.depth.proofs.refusal.Goals as goal

-- from an answer to its number
number : {a b : Answer} → a ≡ b → b.number ≡ a.number
number q = ap (λ (x : Answer). x.number) (sym q)

pub returns-then-number-ne0 : goal.returns-then-number-ne0
returns-then-number-ne0 c =
    let a = c.args in
    c.misfit-number.ensures ∙ number (refused-counts limits (entire a.vertices a.ends.now) _ (λ z. c.if-number-ne0.true (c.misfit-number.ensures ∙ z)))

pub returns-then-is_short : goal.returns-then-is_short
returns-then-is_short c =
    let a = c.args in
    let p = entire a.vertices a.ends.now in
    number (refused_short_lem limits p _ (sym c.misfit-number.ensures ∙ c.if-number-ne0.false)
    (λ t. (rw c.if-is_short.true at c.is_short.ensures) ((enough_places p a.incident a.dead a.places).holds t)))

pub returns : goal.returns
returns c =
    let a = c.args in
    let p = entire a.vertices a.ends.now in
    number (refused_not limits p _ (sym c.misfit-number.ensures ∙ c.if-number-ne0.false)
    ((enough_places p a.incident a.dead a.places).test (rw c.if-is_short.false at c.is_short.ensures)))
