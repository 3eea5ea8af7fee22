-- What the answer of a search says, case by case.
use Rattle.std.specs.Prelude.{Err, Ok}
use mathlib.Core.Path.{◌≡◌, refl, sym, ap, ◌∙◌}
use mathlib.Core.Bool.{Bool}
use mathlib.Core.Logic.{⊎_elim}
use mathlib.Core.List.{List}
use Prim.Native.Nat.{ℕ, ◌/◌, ◌≤◌}
use lib.ListN.{length}
use Rattle.connectivity.specs.Plan.{Plan, Limits}
use Rattle.connectivity.specs.Admission.{Answer, answer, passed, Admitted}
use Rattle.graph.specs.declared.Answer as code
use Rattle.graph.specs.Admission.{told_by, answer_of}
use Rattle.graph.proofs.Lent.{RefusedBy}
use Rattle.incidence.specs.Tables.{Tabled}
use Rattle.depth.specs.Depth.{Explored}
use Rattle.depth.specs.Depth.{Crossing, Fresh, Found, enough, refused, told, Same, Searched, Answered}
use Rattle.depth.specs.Parts.{Least, Fit, Rooms}
use Rattle.depth.proofs.Crosses.{tabled_incident_room, tabled_begins_room}
use Rattle.depth.proofs.Counts.{within, accepted, admitted_fits, refused_not, refused_at, Enough, enough_is, enough_least}

-- The number tells the answer.

module _ (most : Limits) (p : Plan) (incident begins dead first order cursor : List ℕ) where
  abbrev reply : Answer
  reply = told most p incident begins dead first order cursor

  abbrev room : Bool
  room = enough p (length incident) (length begins) (length dead) (length first) (length order) (length cursor)

  pub told_passed : reply.number ≡ 0 → reply ≡ passed
  told_passed z = refused_at most p room ∙ ap (λ (n : ℕ). answer n 0) z

  -- as the code asks, by the shortest of the tables by vertex
  module _ {places x : ℕ} (l : Least (length begins) (length first) (length order) (length cursor) places)
      (q : x ≡ (refused most p (enough p (length incident) places (length dead) places places places)).number) where
    told_number : x ≡ reply.number
    told_number = q ∙ ap (λ (t : Bool). (refused most p t).number) (enough_least p (length incident) (length dead) places l)

    pub told_zero : x ≡ 0 → reply.number ≡ 0
    told_zero z = sym told_number ∙ z

    pub told-refused : (x ≡ 0 → ⊥) → RefusedBy reply (record { number = x; place = 0 })
    told-refused h = (λ z. h (told_number ∙ z), ap (λ (n : ℕ). record { number = n; place = 0 }) told_number ∙ ap told_by (sym (refused_at most p room)))

  -- 0: the counts fit, and the tables are long enough
  pub told-fits : reply.number ≡ 0 → Fit most p incident begins dead × Rooms p.vertices first order cursor
  told-fits z =
      let r = accepted most p room z in
      let n = within most p r.0 in
      let m = (enough_is p (length incident) (length begins) (length dead) (length first) (length order) (length cursor)).holds r.1 in (
        record { few = n.0; small = n.1; incident_room = m.0; begins_room = m.1.0; dead_room = m.1.1.0 },
        record { first_room = m.1.1.1.0; order_room = m.1.1.1.1.0; cursor_room = m.1.1.1.1.1 },
      )

  -- an admitted plan with tables that are long enough is not refused
  pub told-enough : Admitted most p → Enough p (length incident) (length begins) (length dead) (length first) (length order) (length cursor) → reply ≡ passed
  told-enough a h = refused_not most p room (ap (λ (y : Answer). y.number) (admitted_fits most p a))
      ((enough_is p (length incident) (length begins) (length dead) (length first) (length order) (length cursor)).test h)

-- The answer, by cases: refused, and the tables stay; or what it has done.

module _ (most : Limits) (p : Plan) (incident begins dead : List ℕ) (root seen : ℕ) (first₀ order₀ cursor₀ first order cursor : List ℕ) where
  abbrev Tells : Explored → Type 0
  Tells = Answered most p incident begins dead root seen first₀ order₀ cursor₀ first order cursor

  abbrev b : Answer
  b = told most p incident begins dead first₀ order₀ cursor₀

  abbrev pub Cases : Explored → Type 0
  Cases (Err a) = RefusedBy b a × Same first₀ order₀ cursor₀ first order cursor
  Cases (Ok count) = (b ≡ passed) × Searched p incident begins dead root seen first₀ order₀ cursor₀ first order cursor count

  pub by_cases : (r : Explored) → Tells r → Cases r
  by_cases (Err a) c =
      let bad : b ≡ passed → ⊥ = λ q. c.found q in
      ((λ z. bad (told_passed most p incident begins dead first₀ order₀ cursor₀ z), ap told_by c.answer), c.unchanged bad)
  by_cases (Ok count) c = (sym c.answer, c.found (sym c.answer))

  pub from_cases : (r : Explored) → Cases r → Tells r
  from_cases (Err a) c = record { answer = ap answer_of c.0.1; found = λ q. absurd (c.0.0 (ap (λ (x : Answer). x.number) q)); unchanged = λ h. c.1 }
  from_cases (Ok count) c = record { answer = sym c.0; found = λ q. c.1; unchanged = λ h. absurd (h c.0) }

  -- for callers: an admitted plan with tables that are long enough is not refused, and from a root that can be entered it is searched
  pub not_refused : {a : code.Answer} → Admitted most p → Enough p (length incident) (length begins) (length dead) (length first₀) (length order₀) (length cursor₀) → Tells (Err a) → ⊥
  not_refused {a} m h c = (by_cases (Err a) c).0.0 (ap (λ (x : Answer). x.number) (told-enough most p incident begins dead first₀ order₀ cursor₀ m h))

  pub searched : {count : ℕ} → Tells (Ok count) → Searched p incident begins dead root seen first₀ order₀ cursor₀ first order cursor count
  searched {count} c = (by_cases (Ok count) c).1

  pub found_from : {count : ℕ} → Fresh p.vertices root seen first₀ → Tells (Ok count)
      → Found (Crossing p incident begins dead) p.vertices root seen first₀ order₀ cursor₀ first order cursor count
  found_from h c = ⊎_elim (λ f. f.1) (λ n. absurd (n.0 h)) (searched c)

  pub seen_found : (r : Explored) → Admitted most p → Enough p (length incident) (length begins) (length dead) (length first₀) (length order₀) (length cursor₀) → Fresh p.vertices root seen first₀
      → Tells r → (count : ℕ) × (r ≡ Ok count) × Found (Crossing p incident begins dead) p.vertices root seen first₀ order₀ cursor₀ first order cursor count
  seen_found (Err a) m e h c = absurd (not_refused m e c)
  seen_found (Ok count) m e h c = (count, refl, found_from h c)

-- filled tables are long enough, so that only the others are asked about
pub tabled_enough : {most : Limits} {p : Plan} {incident begins : List ℕ} {dead first order cursor : ℕ} → Tabled most p incident begins → length p.ends / 2 ≤ dead → p.vertices ≤ first → p.vertices ≤ order
    → p.vertices ≤ cursor → Enough p (length incident) (length begins) dead first order cursor
tabled_enough t d f o c = (tabled_incident_room t, (tabled_begins_room t, (d, (f, (o, c)))))
