-- The whole answer: refused, and all lent tables stay; or served, and what they then hold.
use Rattle.std.specs.Prelude.{Err, Ok, None}
use mathlib.Core.Path.{◌≡◌, refl, sym, ap, ◌∙◌}
use mathlib.Core.Bool.{Bool, not}
use mathlib.Core.List.{List, [], ◌∷◌}
use mathlib.Core.Option.{Option, none, some}
use Prim.Native.Nat.{ℕ, ◌*◌, ◌/◌, ◌≤◌, ◌<◌}
use native.Mathlib.Omega.{arith}
use native.Mathlib.Decide.{ℕ_discrete}
use borrow.Author.Tests.{ne_eqb}
use lib.ListN.{length, get_or, drop, replicate}
use Rattle.connectivity.specs.Plan.{Plan, entire, graph, listed, limits}
use Rattle.connectivity.specs.Cut.{lowest_cut}
use Rattle.connectivity.specs.Admission.{Answer, Handed, passed, Admitted}
use Rattle.connectivity.specs.Verdict.{verdict_on, verdict_handed}
use Rattle.connectivity.proofs.Lists.{Decides, decides_le, decides_and, decides_to, T-dec}
use Rattle.graph.specs.declared.Answer as code
use Rattle.graph.specs.Admission.{told_by, lent}
use Rattle.graph.specs.Marks.{read}
use Rattle.graph.specs.Tells.{Tells}
use Rattle.graph.proofs.Lent.{RefusedBy, lent_short, lent_passed}
use Rattle.graph.proofs.Handed.{lent_own, back_served, back_refused, refused_not, refused-answer}
use Rattle.incidence.specs.Tables.{incident_table, begins_table, Filled, Tabled}
use Rattle.incidence.proofs.Filled.{incident_long, begins_long, filled-served, filled_for}
use Rattle.incidence.proofs.Front.{front_kept}
use Rattle.depth.specs.Depth.{Cutting}
use Rattle.graph.proofs.Telling.{tells_to, lent-told, told-refused, told_number, told_admitted, told_room}
use Rattle.cuts.specs.Verdict.{Lightest}
use Rattle.cuts.specs.Tries.{SearchedBy}
use Rattle.cuts.specs.Verdict.{handed, lowest_handed, lowest_after}
use Rattle.cuts.specs.Answered.{enough, SearchedFrom, Answered}

-- a verdict that is no refusal is handed back as a success
on_passed : (o : Option (List ℕ)) → (verdict_handed (verdict_on o)).reply ≡ passed
unfolding verdict_handed verdict_on
on_passed none = refl
on_passed (some []) = refl
on_passed (some (e ∷ [])) = refl
on_passed (some (e ∷ (d ∷ l))) = refl

-- so is an answer that there is no cut
pub uncut_passed : {l : Lightest} → l ≡ (Ok None) → (handed l).reply ≡ passed
uncut_passed q = rw q refl

module _ (p : Plan) (incident₀ begins₀ first₀ order₀ : List ℕ) where
  abbrev ample : Bool
  ample = enough p incident₀ begins₀ first₀ order₀

  abbrev found : Handed
  found = verdict_handed (verdict_on (lowest_cut (graph p)))

  -- what it means that the lent tables are long enough
  pub record Room : Type 0 where
    pub first_room : p.vertices ≤ length first₀
    pub order_room : p.vertices ≤ length order₀
    pub incident_room : 2 * (length p.ends / 2) ≤ length incident₀
    pub begins_room : p.vertices ≤ length begins₀

  ample_is : Decides ample Room
  ample_is = decides_to
      (decides_and (decides_le p.vertices (length first₀)) (decides_and (decides_le p.vertices (length order₀))
      (decides_and (decides_le (2 * (length p.ends / 2)) (length incident₀)) (decides_le p.vertices (length begins₀)))))
      (λ h. record { first_room = h.0; order_room = h.1.0; incident_room = h.1.1.0; begins_room = h.1.1.1 })
      (λ r. (r.first_room, (r.order_room, (r.incident_room, r.begins_room))))

  -- Err.

  module _ {incident begins first order : List ℕ} {a : code.Answer} (r : RefusedBy (lent limits p ample) a)
      (i : incident ≡ incident₀) (b : begins ≡ begins₀) (f : first ≡ first₀) (o : order ≡ order₀) where
    not_passed : (handed (Err a)).reply ≡ passed → ⊥
    not_passed q = refused_not r (sym (refused-answer r) ∙ q)

    refused_is : handed (Err a) ≡ lowest_after (lent limits p ample) p
    unfolding lowest_after
    refused_is = back_refused (lent limits p ample) found r

    answered_refused : Answered limits p incident₀ begins₀ first₀ order₀ incident begins first order (Err a)
    answered_refused = record {
      answer = refused_is;
      incident_front = λ q. absurd (not_passed q);
      begins_front = λ q. absurd (not_passed q);
      searched = λ q. absurd (not_passed q);
      unchanged = λ q. (i, b, f, o);
    }

  -- what the test of the lengths tells
  module _ (short : Bool) (h : Tells (not short) ((p.vertices ≤ length first₀) × (p.vertices ≤ length order₀) × (2 * (length p.ends / 2) ≤ length incident₀) × (p.vertices ≤ length begins₀)))
      {b : code.Answer} (q : b ≡ told_by (lent limits p (not short))) where
    lent_is : b ≡ told_by (lent limits p ample)
    lent_is = lent-told limits p (not short) ample_is
        (tells_to (not short) (λ t. record { first_room = t.0; order_room = t.1; incident_room = t.2; begins_room = t.3 }) (λ r. (r.first_room, r.order_room, r.incident_room, r.begins_room)) h) q

    pub answers_refused : (b.number ≡ 0 → ⊥) → Answered limits p incident₀ begins₀ first₀ order₀ incident₀ begins₀ first₀ order₀ (Err b)
    answers_refused z = answered_refused (told-refused limits p ample lent_is z) refl refl refl refl

    module _ (z : b.number ≡ 0) where
      told-plan : Admitted limits p
      told-plan = told_admitted limits p ample lent_is z

      pub told_space : Room
      told_space = told_room limits p ample lent_is z ample_is

      served_is : found ≡ lowest_after (lent limits p ample) p
      unfolding lowest_after
      served_is = back_served (lent limits p ample) found (told_number limits p ample lent_is z)

      -- the tables by vertex are filled
      module _ {incident begins : List ℕ} {x : code.Answer} (c : Filled limits (entire p.vertices p.ends) incident₀ begins₀ incident begins x) where
        filled_zero : x.number ≡ 0
        filled_zero = filled-served p told-plan c told_space.incident_room told_space.begins_room

        pub filled-tables : Tabled limits p incident begins
        filled-tables = filled_for p told-plan c told_space.incident_room told_space.begins_room

        pub answers_served : (l : Lightest) {first order : List ℕ} → handed l ≡ found → SearchedFrom limits p incident begins first₀ order₀ first order
            → Answered limits p incident₀ begins₀ first₀ order₀ incident begins first order l
        answers_served l q s = record {
          answer = q ∙ served_is;
          incident_front = λ y. c.incident_front filled_zero;
          begins_front = λ y. c.begins_front filled_zero;
          searched = λ y. s;
          unchanged = λ n. absurd (n (ap (λ (x : Handed). x.reply) q ∙ on_passed (lowest_cut (graph p))));
        }

  -- What the answer says.

  module _ {incident begins first order : List ℕ} (l : Lightest) (a : Answered limits p incident₀ begins₀ first₀ order₀ incident begins first order l) where
    -- with tables for any plan, that is the plan's own refusal or its lowest cut
    pub answered_own : (Admitted limits p → Room) → handed l ≡ lowest_handed limits p
    unfolding lowest_handed lowest_after
    answered_own room = a.answer ∙ ap (λ (x : Answer). lowest_after x p) (lent_own limits p ample (λ m. ample_is.test (room m)))

    module _ (y : (handed l).reply ≡ passed) where
      served_number : (lent limits p ample).number ≡ 0
      unfolding lowest_after
      served_number = elim (ℕ_discrete (lent limits p ample).number 0) [
        | yes z ↦ z
        | no n ↦
            let same : (handed l).reply ≡ lent limits p ample = ap (λ (x : Handed). x.reply) a.answer ∙ rw (ne_eqb (lent limits p ample).number 0 n) in
            ap (λ (x : Answer). x.number) (sym same ∙ y)
      ]

      admitted : Admitted limits p
      admitted = lent_passed ample served_number

      room : Room
      room = elim (T-dec ample) [ yes t ↦ ample_is.holds t | no n ↦ absurd ((lent_short ample admitted n).0 served_number) ]

      -- the tables by vertex stand at the fronts of theirs
      pub served_tabled : Tabled limits p incident begins
      served_tabled = record {
        admitted = admitted;
        incident_rest = drop (length (incident_table (listed p))) incident₀;
        incident_is = a.incident_front y;
        begins_rest = drop (length (begins_table (listed p))) begins₀;
        begins_is = a.begins_front y;
      }

      -- a search from the lowest vertex over all edges, where no vertex had a mark, and the excluded vertices behind it; all tables keep their lengths
      pub record Served : Type 0 where
        pub dead : List ℕ
        pub cutting : Cutting p [] (read dead)
        pub unmarked : List ℕ
        pub clear : (v : ℕ) → v < p.vertices → get_or unmarked v 0 ≡ 0
        pub cursor₀ : List ℕ
        pub cursor : List ℕ
        pub count : ℕ
        pub by : SearchedBy p incident begins dead unmarked order₀ cursor₀ first order cursor count
        pub incident_long : length incident ≡ length incident₀
        pub begins_long : length begins ≡ length begins₀
        pub first_long : length first ≡ length first₀
        pub order_long : length order ≡ length order₀

      pub served-tables : Served
      served-tables =
          let s = a.searched y in
          let f = s.searched.by.found in
          let x = s.searched.by.appended in
          record {
            dead = s.dead;
            cutting = s.cutting;
            unmarked = s.cleared;
            clear = s.clear.zero;
            cursor₀ = replicate limits.vertices 0;
            cursor = s.searched.cursor;
            count = s.searched.count;
            by = s.searched.by;
            incident_long = (front_kept (incident_table (listed p)) incident₀ (a.incident_front y) (omega (arith, incident_long admitted, room.incident_room))).long;
            begins_long = (front_kept (begins_table (listed p)) begins₀ (a.begins_front y) (omega (arith, begins_long p, room.begins_room))).long;
            first_long = x.first_long ∙ f.first_long ∙ s.clear.kept.long;
            order_long = x.order_long ∙ f.order_long;
          }
