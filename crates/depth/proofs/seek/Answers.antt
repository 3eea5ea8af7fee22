-- `seek` meets its contract. The loop's invariant: the edges from the first place up to i lead to nothing new.
use mathlib.Core.Path.{refl}
use native.Mathlib.Omega.{arith}
use borrow.Author.Count.{below_more}
use Rattle.depth.proofs.seek.Goals as goal

pub returns-then-leads_on : goal.returns-then-leads_on
returns-then-leads_on c =
    let i = c.loop-i.invariant in
    record {
      passed = λ k a b. i k b a;
      found = λ l. (omega arith, c.leads_on.ensures.yes c.if-leads_on.true);
      inside = λ h. absurd (omega (arith, c.loop-i-test.true));
    }

pub loop-i-preserved : goal.loop-i-preserved
loop-i-preserved c =
    let i = c.loop-i.invariant in
    below_more _ _ i (λ h. c.leads_on.ensures.no c.if-leads_on.false)

pub returns : goal.returns
returns c =
    let i = c.loop-i.invariant in
    record { passed = λ k a b. i k (omega (arith, c.loop-i-test.false)) a; found = λ l. absurd (omega arith); inside = λ h. refl }
