-- `word` meets its contract. The loop's invariant: the marks from v on are in the word.
use mathlib.Core.Path.{◌≡◌, sym, ap, ◌∙◌}
use mathlib.Core.Bool.{Bool}
use Prim.Native.Nat.{ℕ, ◌+◌, ◌-◌, ◌*◌, ◌^◌, ◌<◌}
use native.Mathlib.Omega.{arith}
use Rattle.connectivity.specs.Fallen.{per_word, word_from}
use Rattle.removal.specs.Fallen.{is_unseen}
use Rattle.removal.proofs.Packing.{unseen_behind, word_none, word_next, word_room}
use Rattle.removal.proofs.word.Goals as goal

pub loop-v-init : goal.loop-v-init
loop-v-init c =
    let end : ℕ = c.args.from + per_word in
    let test : ℕ → Bool = is_unseen c.args.n c.args.first.now c.args.barred.now in
    let t = c.top-v.ensures in (
      t.low,
      t.high,
      t.inside,
      sym (word_none test c.top-v.result (end - c.top-v.result)
          (λ u l b. unseen_behind c.args.n c.args.first.now c.args.barred.now u (omega (arith, t.rest (omega (arith, l, b, t.high)), l)))),
    )

pub overflow_mul-word : goal.overflow_mul-word
overflow_mul-word c =
    let end : ℕ = c.args.from + per_word in
    let test : ℕ → Bool = is_unseen c.args.n c.args.first.now c.args.barred.now in
    let room : c.loop-v.word < 2 ^ 63 = omega (arith, c.loop-v.invariant.3, word_room test c.loop-v.v end 63 (omega (arith, c.loop-v.invariant.1))) in
    omega (arith, room)

pub overflow_add-word : goal.overflow_add-word
overflow_add-word c =
    let end : ℕ = c.args.from + per_word in
    let test : ℕ → Bool = is_unseen c.args.n c.args.first.now c.args.barred.now in
    let more : 2 * c.loop-v.word + c.mark.result ≡ word_from test (c.loop-v.v - 1) (end - (c.loop-v.v - 1)) = ap (λ (w : ℕ). 2 * w + c.mark.result) c.loop-v.invariant.3 ∙ ap (λ (b : ℕ). 2 * word_from test c.loop-v.v (end - c.loop-v.v) + b) c.mark.ensures
    ∙ word_next test c.loop-v.v end (omega arith) c.loop-v.invariant.1 in
    omega (arith, more, word_room test (c.loop-v.v - 1) end per_word (omega (arith, c.loop-v.invariant.0, c.loop-v-test.true)))

pub loop-v-preserved : goal.loop-v-preserved
loop-v-preserved c =
    let end : ℕ = c.args.from + per_word in
    let test : ℕ → Bool = is_unseen c.args.n c.args.first.now c.args.barred.now in
    let more : 2 * c.loop-v.word + c.mark.result ≡ word_from test (c.loop-v.v - 1) (end - (c.loop-v.v - 1)) = ap (λ (w : ℕ). 2 * w + c.mark.result) c.loop-v.invariant.3 ∙ ap (λ (b : ℕ). 2 * word_from test c.loop-v.v (end - c.loop-v.v) + b) c.mark.ensures
    ∙ word_next test c.loop-v.v end (omega arith) c.loop-v.invariant.1 in
    (omega arith, omega (arith, c.loop-v.invariant.1), λ h. omega (arith, c.loop-v.invariant.2 c.loop-v-test.true), more)

pub returns : goal.returns
returns c =
    let end : ℕ = c.args.from + per_word in
    let all : c.loop-v.v ≡ c.args.from = omega (arith, c.loop-v.invariant.0, c.loop-v-test.false) in
    let size : end - c.args.from ≡ per_word = omega arith in
    c.loop-v.invariant.3 ∙ rw (all, size)
