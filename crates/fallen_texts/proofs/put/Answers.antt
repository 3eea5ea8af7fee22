-- `put` meets its contract: a vertex without a mark leaves the list, one with a mark is put behind it.
use native.Mathlib.Omega.{arith}
use Rattle.fallen_texts.proofs.Listing.{more_none, more_one}
use Rattle.fallen_texts.proofs.put.Goals as goal

pub returns-then-words-v-eq0 : goal.returns-then-words-v-eq0
returns-then-words-v-eq0 c =
    let a = c.args in
    (λ front b. more_none front a.list.now a.words.now a.at a.v (omega (arith, c.if-words-v-eq0.true)) b, omega arith)

pub returns : goal.returns
returns c =
    let a = c.args in
    (λ front b. more_one front a.list.now a.words.now a.at a.v (λ z. omega (arith, z, c.if-words-v-eq0.false)) c.requires.1 b, omega arith)
