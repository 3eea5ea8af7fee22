-- `link` meets its contract. The loop's invariant: the edges from e on stand on their chains.
use mathlib.Core.Path.{◌≡◌, ap, subst, ◌∙◌}
use Prim.Native.Nat.{ℕ, ◌-◌}
use native.Mathlib.Omega.{arith}
use lib.ListN.{length, get_or}
use Rattle.chains.specs.Chains.{key_of}
use Rattle.chains.specs.Parts.{Linked}
use Rattle.chains.proofs.Linking.{linked_start, linked_step}
use Rattle.chains.proofs.link.Goals as goal

pub loop-e-init : goal.loop-e-init
loop-e-init c = linked_start _ _ c.requires

pub loop-e-preserved : goal.loop-e-preserved
loop-e-preserved c =
    let k = c.key-i.ensures in
    linked_step _ _ (omega arith) (omega (arith, c.requires.next_room, c.loop-e.invariant.next_kept.long)) (omega (arith, k.1, c.loop-e.invariant.heads_long)) (k.0 ∙ ap (λ (n : ℕ). key_of n (get_or c.args.labels.now (c.loop-e.e - 1) 0)) c.loop-e.invariant.heads_long) (omega arith) c.loop-e.invariant

pub returns : goal.returns
returns c =
    let a = c.args in
    let none : c.loop-e.e ≡ 0 = omega arith in
    subst (λ (e : ℕ). Linked a.edges e (length a.heads.now) a.labels.now a.next.now c.loop-e.next c.loop-e.heads) none c.loop-e.invariant
