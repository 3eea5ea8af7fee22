-- What a loop along a way up has written when some legs are done: their rows, the marks of their vertices, or their edges and who is below whom.
use Rattle.std.proofs.Common.{◌≡◌, ℕ, suc, ◌+◌, ◌-◌, ◌*◌, ◌/◌, ◌<◌, ◌≤◌, ◌⊎◌, List, [], ◌∷◌, ◌++◌, length, take, drop, set, sym, refl, ap, ◌∙◌, subst, inl, inr, arith, length-append, length-set, get_or-set_other, get_or-set_same}
use mathlib.Core.List.Memᴰ
use mathlib.Core.List.Memᴰ.{append_cases as in-cases}
use mathlib.Core.List.Memᴰ.{append_left as in_left}
use mathlib.Core.List.Memᴰ.{append_right as in_right}
use mathlib.Core.List.Memᴰ.{eq_of_singleton}
use mathlib.Core.List.Memᴰ.{head as here}
use mathlib.Core.List.Memᴰ.{not-nil as not_in}
use mathlib.Core.List.{Memᴰ as In}
use native.Mathlib.Decide.{ℕ_discrete}
use Rattle.connectivity.specs.Plan.{Limits}
use Rattle.connectivity.specs.Walk.{Leg, froms, edges_of}
use Rattle.connectivity.specs.Mader.{step_rows}
use Rattle.connectivity.proofs.Legs.{leg, edges_snoc}
use Rattle.connectivity.proofs.Build.{step_length}
use Rattle.connectivity.proofs.Fresh.{froms_snoc}
use Rattle.graph.specs.Marks.{read}
use Rattle.record.specs.Ways.{Way, Written, with_row, next_up, Climbing, Climbed, OneMore, Marking, MarkedOn, Raising, Raised}
use Rattle.record.proofs.Written.{rows_append, written_none, written_row, written_length, part_long, written_part}
use Rattle.record.proofs.Paths.{Onward, onward_start, onward_sum, onward_below, onward_new, onward_end, onward_next, onward_few, onward_step, step_cases, step_done}

-- Rows.

pub record Rising {most : Limits} {ends first : List ℕ} {v stop : ℕ} (w : Way most ends first v stop) (step : ℕ) (before now : List ℕ) (at count : ℕ) : Type 0 where
  pub on : Onward w at
  pub counted : count ≡ length on.done
  pub written : Written (step_rows step on.done) before now

abbrev pub RisingAll : Limits → List ℕ → List ℕ → ℕ → ℕ → ℕ → List ℕ → List ℕ → ℕ → ℕ → Type 0
RisingAll most ends first v stop step before now at count =
    (c : Climbing most ends first v stop (length before)) → Rising c.way step before now at count

pub rising_start : {most : Limits} (ends first before : List ℕ) (v stop step : ℕ) → RisingAll most ends first v stop step before before v 0
rising_start ends first before v stop step = λ c. record { on = onward_start c.way; counted = refl; written = written_none before }

module _ {most : Limits} {ends first before now : List ℕ} {v stop step at count : ℕ} {w : Way most ends first v stop} (r : Rising w step before now at count) where
  pub rising_length : 3 * length w.legs ≤ length before → length now ≡ length before
  rising_length f = written_length (step_rows step r.on.done) before now r.written (omega (arith, step_length step r.on.done, onward_sum r.on, f))

  pub rising_end : at ≡ stop → Written (step_rows step w.legs) before now × (count ≡ length w.legs)
  rising_end p =
      let q = onward_end r.on p in
      (subst (λ (l : List Leg). Written (step_rows step l) before now) (sym q) r.written, r.counted ∙ ap length (sym q))

  pub rising_few : (at ≡ stop → ⊥) → count + 1 ≤ length w.legs
  rising_few d = omega (arith, onward_few r.on d, r.counted)

  pub rising_step : (at ≡ stop → ⊥) → 3 * length w.legs ≤ length before
      → Rising w step before (with_row now count step (read first at - 1) at) (next_up ends first at) (count + 1)
  rising_step d f =
      let l = leg (read first at - 1) at in
      let done = r.on.done in
      record {
        on = onward_step r.on d;
        counted = omega (arith, r.counted, length-append done (l ∷ []));
        written = subst (λ (k : List ℕ). Written k before (with_row now count step (read first at - 1) at)) (sym (rows_append step done (l ∷ [])))
            (written_row (step_rows step done) before now count step (read first at - 1) at r.written (omega (arith, step_length step done, r.counted))
            (omega (arith, rising_few d, f)));
      }

-- Over e from x, and up.

module _ {most : Limits} {ends first : List ℕ} {v stop : ℕ} (before : List ℕ) (e x step : ℕ) (c : OneMore most ends first v stop (length before)) where
  abbrev opened : List ℕ
  opened = with_row before 0 step e x

  open_row : Written (step ∷ (e ∷ (x ∷ []))) before opened
  open_row = written_row [] before before 0 step e x (written_none before) refl (omega (arith, c.fits))

  pub open_long : length opened ≡ length before
  open_long = written_length (step ∷ (e ∷ (x ∷ []))) before opened open_row (omega (arith, c.fits))

  abbrev pub over_climb : Climbing most ends first v stop (length (take (length opened - 3) (drop 3 opened)))
  over_climb = record { way = c.way; fits = omega (arith, part_long opened 3, open_long, c.fits) }

  pub over_up : (part : List ℕ) (count : ℕ) → Climbed most ends first v stop step (take (length opened - 3) (drop 3 opened)) part count
      → Written (step_rows step (leg e x ∷ c.way.legs)) before (take 3 opened ++ (part ++ drop (length opened - 3) (drop 3 opened)))
      × (count + 1 ≡ length c.way.legs + 1)
  over_up part count u =
      let w = u over_climb in
      (written_part (step ∷ (e ∷ (x ∷ []))) (step_rows step c.way.legs) before opened part 3 open_row refl w.0, omega (arith, w.1))

-- Marks.

-- the members of a list have the mark m, all others the mark of before
pub record Sets (l : List ℕ) (m : ℕ) (before now : List ℕ) : Type 0 where
  pub long : length now ≡ length before
  pub new : (u : ℕ) → In u l → read now u ≡ m
  pub away : (u : ℕ) → (In u l → ⊥) → read now u ≡ read before u

sets_none : (m : ℕ) (before : List ℕ) → Sets [] m before before
sets_none m before = record { long = refl; new = λ u i. absurd (not_in i); away = λ u n. refl }

pub sets_more : {l before now : List ℕ} {m : ℕ} (k : ℕ) → k < length before → Sets l m before now → Sets (l ++ (k ∷ [])) m before (set now k m)
sets_more {l} {before} {now} {m} k h s = record {
  long = length-set now k m ∙ s.long;
  new = λ u i. elim (ℕ_discrete u k) [
    | yes p ↦ subst (λ (x : ℕ). read (set now k m) x ≡ m) (sym p) (get_or-set_same now k m 0 (omega (arith, h, s.long)))
    | no d ↦ get_or-set_other now k u m 0 d ∙ s.new u (elim (in-cases l i) [ inl j ↦ j | inr j ↦ absurd (d (eq_of_singleton j)) ])
  ];
  away = λ u n. get_or-set_other now k u m 0 (λ p. n (in_right l (here p))) ∙ s.away u (λ i. n (in_left (k ∷ []) i));
}

pub record Marks {most : Limits} {ends first : List ℕ} {v stop : ℕ} (w : Way most ends first v stop) (m : ℕ) (before now : List ℕ) (at : ℕ) : Type 0 where
  pub on : Onward w at
  pub sets : Sets (froms on.done) m before now

abbrev pub MarksAll : Limits → List ℕ → List ℕ → ℕ → ℕ → ℕ → List ℕ → List ℕ → ℕ → Type 0
MarksAll most ends first v stop m before now at = (c : Marking most ends first v stop (length before)) → Marks c.way m before now at

pub marks_start : {most : Limits} (ends first before : List ℕ) (v stop m : ℕ) → MarksAll most ends first v stop m before before v
marks_start ends first before v stop m = λ c. record { on = onward_start c.way; sets = sets_none m before }

module _ {most : Limits} {ends first before now : List ℕ} {v stop m at : ℕ} {w : Way most ends first v stop} (r : Marks w m before now at) (room : w.n ≤ length before) where
  pub marks_room : {u : ℕ} → u < w.n → u < length now
  marks_room h = omega (arith, h, room, r.sets.long)

  pub marks_step : (at ≡ stop → ⊥) → Marks w m before (set now at m) (next_up ends first at)
  marks_step d = record {
    on = onward_step r.on d;
    sets = subst (λ (l : List ℕ). Sets l m before (set now at m)) (sym (froms_snoc r.on.done (leg (read first at - 1) at)))
        (sets_more at (omega (arith, onward_below r.on, room)) r.sets);
  }

  last_set : at ≡ stop → Sets (froms w.legs ++ (stop ∷ [])) m before (set now stop m)
  last_set p = sets_more stop (omega (arith, w.to, room)) (subst (λ (l : List Leg). Sets (froms l) m before now) (sym (onward_end r.on p)) r.sets)

  pub marks_long : at ≡ stop → length (set now stop m) ≡ length before
  marks_long p = (last_set p).long

  pub marks_end : at ≡ stop → MarkedOn w.legs stop m (read before) (read (set now stop m))
  marks_end p = let s = last_set p in record {
    on = λ u i. s.new u (in_left (stop ∷ []) i);
    end = s.new stop (in_right (froms w.legs) (here refl));
    off = λ u n d. s.away u (λ i. elim (in-cases (froms w.legs) i) [ inl j ↦ n j | inr j ↦ d (eq_of_singleton j) ]);
  }

-- Edges, and who is below whom.

pub record Lifts {most : Limits} {ends first : List ℕ} {v stop : ℕ} (w : Way most ends first v stop) (below over below' over' : List ℕ) (top at : ℕ) : Type 0 where
  pub on : Onward w at
  pub sets : Sets (edges_of on.done) 0 over over'
  pub long : length below' ≡ length below
  pub leads : (y : ℕ) → In y (froms on.done) → In (next_up ends first y) (froms on.done) ⊎ (next_up ends first y ≡ at)
  pub noted : (y : ℕ) → In y (froms on.done) → read below' (next_up ends first y) ≡ suc y
  pub away : (z : ℕ) → ((y : ℕ) → In y (froms on.done) → next_up ends first y ≡ z → ⊥) → read below' z ≡ read below z
  pub top_on : 1 ≤ length on.done → In top (froms on.done)
  pub top_up : 1 ≤ length on.done → next_up ends first top ≡ at

abbrev pub LiftsAll : Limits → List ℕ → List ℕ → ℕ → ℕ → List ℕ → List ℕ → List ℕ → List ℕ → ℕ → ℕ → Type 0
LiftsAll most ends first v stop below over below' over' top at =
    (c : Raising most ends first v stop (length below) (length over)) → Lifts c.way below over below' over' top at

pub lifts_start : {most : Limits} (ends first below over : List ℕ) (v stop : ℕ) → LiftsAll most ends first v stop below over below over v v
lifts_start ends first below over v stop = λ c. record {
  on = onward_start c.way;
  sets = sets_none 0 over;
  long = refl;
  leads = λ y i. absurd (not_in i);
  noted = λ y i. absurd (not_in i);
  away = λ z n. refl;
  top_on = λ h. absurd (omega (arith, h));
  top_up = λ h. absurd (omega (arith, h));
}

module _ {most : Limits} {ends first below over below' over' : List ℕ} {v stop top at : ℕ} {w : Way most ends first v stop} (r : Lifts w below over below' over' top at) where
  pub lifts_end : at ≡ stop → Raised ends first w.legs stop (read below) (read over) (read below') (read over') top
  lifts_end p =
      subst (λ (l : List Leg). Raised ends first l stop (read below) (read over) (read below') (read over') top) (sym (onward_end r.on p))
      (record {
        noted = r.noted;
        below_off = r.away;
        over_on = r.sets.new;
        over_off = r.sets.away;
        top_on = r.top_on;
        top_up = λ h. r.top_up h ∙ p;
      })

  module _ (d : at ≡ stop → ⊥) (room : w.n ≤ length below) (edges : length ends / 2 ≤ length over) where
    abbrev step : Onward w (next_up ends first at)
    step = onward_step r.on d

    -- it comes to a vertex that none of those before led to
    leads_new : (y : ℕ) → In y (froms r.on.done) → next_up ends first y ≡ next_up ends first at → ⊥
    leads_new y i p = onward_new step (step_done r.on (elim (r.leads y i) [ inl j ↦ inl (Memᴰ.cast (sym p) j) | inr q ↦ inr (sym p ∙ q) ]))

    pub lifts_step : Lifts w below over (set below' (next_up ends first at) (at + 1)) (set over' (read first at - 1) 0) at (next_up ends first at)
    lifts_step = let o = onward_next r.on d in let to = next_up ends first at in record {
      on = step;
      sets = subst (λ (l : List ℕ). Sets l 0 over (set over' (read first at - 1) 0)) (sym (edges_snoc r.on.done (leg (read first at - 1) at)))
          (sets_more (read first at - 1) (omega (arith, o.edge, edges)) r.sets);
      long = length-set below' to (at + 1) ∙ r.long;
      leads = λ y i. elim (step_cases r.on i) [
        | inl j ↦ inl (step_done r.on (r.leads y j))
        | inr p ↦ inr (ap (next_up ends first) p)
      ];
      noted = λ y i. elim (step_cases r.on i) [
        | inl j ↦ get_or-set_other below' to (next_up ends first y) (at + 1) 0 (leads_new y j) ∙ r.noted y j
        | inr p ↦ subst (λ (x : ℕ). read (set below' to (at + 1)) (next_up ends first x) ≡ suc x) (sym p)
            (get_or-set_same below' to (at + 1) 0 (omega (arith, o.leads, room, r.long)) ∙ omega arith)
      ];
      away = λ z n. get_or-set_other below' to z (at + 1) 0 (λ p. n at (step_done r.on (inr refl)) (sym p))
          ∙ r.away z (λ y i. n y (step_done r.on (inl i)));
      top_on = λ h. step_done r.on (inr refl);
      top_up = λ h. refl;
    }
