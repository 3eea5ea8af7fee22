-- `chain` meets its contract: too short, or cleared and linked.
use mathlib.Core.Path.{ap, ◌∙◌}
use Prim.Native.Nat.{ℕ, ◌≤◌, ◌<◌}
use lib.ListN.{length, length-replicate}
use Rattle.chains.proofs.Linking.{chained_short, link_ready, chained_linked}
use Rattle.chains.proofs.chain.Goals as goal

pub returns-then-is_short : goal.returns-then-is_short
returns-then-is_short c = chained_short _ _ _ _ (rw c.if-is_short.true at c.is_short.ensures)

pub link-requires : goal.link-requires
link-requires c =
    let room : let a = c.args in (a.edges ≤ length a.labels.now) × ((a.edges ≤ length a.next.now) × (0 < length a.heads.now)) = rw c.if-is_short.false at c.is_short.ensures in
    link_ready _ _ _ c.args.heads.now (room) (c.fill.ensures.after (λ _ h. h))

pub returns : goal.returns
returns c =
    let room : let a = c.args in (a.edges ≤ length a.labels.now) × ((a.edges ≤ length a.next.now) × (0 < length a.heads.now)) = rw c.if-is_short.false at c.is_short.ensures in
    chained_linked _ _ _ _ (room) (ap length (c.fill.ensures.after (λ _ h. h)) ∙ length-replicate {A = ℕ} _ 0) c.link.ensures
