-- A result of writing, met by the code's answer and memory; and what the code's answer tells of the result.
use Rattle.std.specs.Prelude.{Err, Ok}
use Rattle.std.specs.Result.{result_unwrap_or}
use mathlib.Core.Path.{◌≡◌, refl, sym, ap, ◌∙◌}
use mathlib.Core.List.{List}
use Prim.Native.Nat.{ℕ}
use lib.ListN.{length, get_or}
use Rattle.connectivity.specs.Plan.{Plan, Limits}
use Rattle.connectivity.specs.Admission.{Answer, Handed}
use Rattle.graph.specs.Admission.{told_by}
use Rattle.graph.specs.declared.Answer as code
use Rattle.graph.proofs.Lent.{not_served, told_by_lem}
use Rattle.text.specs.Plan.{Writing, write_plan}
use Rattle.text.specs.Verdict.{write_verdict}
use Rattle.text.specs.Lines.{write_lines}
use Rattle.text_write.specs.Entry.{Written}
use Rattle.text_write.specs.Entry.{handed, bytes_handed, size_of, after_writing, WritesPlan, WritesVerdict, WritesLines}

module _ {ws lent after : List ℕ} {r : Written} (x : Writing) where
  pub writes_plan : {limits : Limits} {p : Plan} → write_plan ws limits p (length lent) ≡ x → handed r ≡ bytes_handed x → after ≡ after_writing x lent → WritesPlan ws limits p lent after r
  writes_plan p q m = record { answer = q ∙ sym (ap bytes_handed p); memory = m ∙ sym (ap (λ (y : Writing). after_writing y lent) p) }

  pub writes_verdict : {limits : Limits} {kind : ℕ} {list : List ℕ}
      → write_verdict ws limits kind list (length lent) ≡ x → handed r ≡ bytes_handed x → after ≡ after_writing x lent → WritesVerdict ws limits kind list lent after r
  writes_verdict p q m = record { answer = q ∙ sym (ap bytes_handed p); memory = m ∙ sym (ap (λ (y : Writing). after_writing y lent) p) }

  pub writes_lines : {columns : ℕ} {list : List ℕ}
      → write_lines ws columns list (length lent) ≡ x → handed r ≡ bytes_handed x → after ≡ after_writing x lent → WritesLines ws columns list lent after r
  writes_lines p q m = record { answer = q ∙ sym (ap bytes_handed p); memory = m ∙ sym (ap (λ (y : Writing). after_writing y lent) p) }

-- For callers: the case of the answer tells the case of the result.

pub bytes_told : (x : Writing) {r : Written} {count : ℕ} → handed r ≡ bytes_handed x → r ≡ Ok count
    → (bytes : List ℕ) × (x ≡ Writing.written bytes) × (count ≡ length bytes)
bytes_told (Writing.refused b) h q = absurd (not_served (sym (rw q at h)))
bytes_told (Writing.written bytes) h q = (bytes, refl, ap (λ (z : Handed). get_or z.values 0 0) (rw q at h))

pub bytes_refusal : (x : Writing) {r : Written} {a : code.Answer} → handed r ≡ bytes_handed x → r ≡ Err a
    → (b : Answer) × (x ≡ Writing.refused b) × (a ≡ told_by b)
bytes_refusal (Writing.refused b) h q = (b, refl, told_by_lem (rw q at h))
bytes_refusal (Writing.written bytes) h q = absurd (not_served (rw q at h))

-- how many bytes were written, 0 where that was refused
pub size_told : (r : Written) → result_unwrap_or r 0 ≡ size_of (handed r)
size_told (Err a) = refl
size_told (Ok count) = refl
