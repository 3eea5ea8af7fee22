-- `misfit` meets its contract, by its tests.
use mathlib.Core.Path.{◌≡◌, sym, ap}
use native.Mathlib.Omega.{arith}
use Rattle.connectivity.specs.Plan.{entire, limits}
use Rattle.connectivity.specs.Admission.{Answer}
use Rattle.depth.proofs.Counts.{odd, too_few, too_many, too_long, counts_fit}
use Rattle.depth.proofs.misfit.Goals as goal

-- from an answer to its number
number : {a b : Answer} → a ≡ b → b.number ≡ a.number
number q = ap (λ (x : Answer). x.number) (sym q)

pub returns-then-ends-ne0 : goal.returns-then-ends-ne0
returns-then-ends-ne0 c = let a = c.args in number (odd limits (entire a.vertices a.ends.now) (omega arith))

pub returns-then-vertices-lt2 : goal.returns-then-vertices-lt2
returns-then-vertices-lt2 c =
    let a = c.args in
    number (too_few limits (entire a.vertices a.ends.now) (omega arith) (omega arith))

pub returns-then-vertices-gt-MAX_VERTICES : goal.returns-then-vertices-gt-MAX_VERTICES
returns-then-vertices-gt-MAX_VERTICES c =
    let a = c.args in
    number (too_many limits (entire a.vertices a.ends.now) (omega arith) (omega arith) (omega arith))

pub returns-then-ends-gt-MAX_EDGES : goal.returns-then-ends-gt-MAX_EDGES
returns-then-ends-gt-MAX_EDGES c =
    let a = c.args in
    number (too_long limits (entire a.vertices a.ends.now) (omega arith) (omega arith) (omega arith) (omega arith))

pub returns : goal.returns
returns c =
    let a = c.args in
    number (counts_fit limits (entire a.vertices a.ends.now) (omega arith) (omega arith) (omega arith) (omega arith))
