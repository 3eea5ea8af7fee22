-- One step more: what each part of `add_path` asks holds, and in the end the tables hold the steps with it.
use Rattle.std.proofs.Common.{◌≡◌, ℕ, ◌+◌, ◌*◌, ◌<◌, ◌≤◌, ◌⊎◌, List, ◌∷◌, ◌++◌, length, sym, ◌∙◌, subst, inl, inr, arith, length-append}
use mathlib.Core.List.Memᴰ.{append_cases as in-cases}
use mathlib.Core.List.Memᴰ.{append_left as in_left}
use mathlib.Core.List.Memᴰ.{append_right as in_right}
use mathlib.Core.List.Memᴰ.{cases_cons as in-cons}
use mathlib.Core.List.Memᴰ.{head as first-in}
use mathlib.Core.List.Memᴰ.{tail as later}
use native.Mathlib.Decide.{ℕ_discrete, dec_le}
use Rattle.connectivity.specs.Plan.{Plan, plan, graph, Limits}
use Rattle.connectivity.specs.Graph.{Graph, Vertex}
use Rattle.connectivity.specs.Walk.{Leg, edges_of, all_edges, froms, Built, Branch}
use Rattle.connectivity.specs.Mader.{MaderPath, step_rows}
use Rattle.connectivity.proofs.Lists.{in_dec}
use Rattle.connectivity.proofs.Reach.{joins_sym, joins_vertex}
use Rattle.connectivity.proofs.Legs.{leg, legs_edges}
use Rattle.connectivity.proofs.Kept.{vertex_size}
use Rattle.tree.specs.Tree.{Pointers, Climb}
use Rattle.tree.specs.Filed.{Marked}
use Rattle.tree.specs.State.{Along}
use Rattle.tree.proofs.Above.{climb_end, climb_new, climb_as}
use Rattle.tree.proofs.Inside.{built_is_vertex, climb_built}
use Rattle.tree.proofs.Along.{along_step}
use Rattle.tree.proofs.State.{filed_marked, state_step, belows_map}
use Rattle.tree.proofs.Shelving.{filed_built, filed_own, marked-map}
use Rattle.graph.specs.Marks.{read}
use Rattle.graph.proofs.Joined.{joins_edge}
use Rattle.graph.specs.Ends.{far_end}
use Rattle.record.specs.Ways.{Toward, MetFirst, OneMore, OverUp, Written, Ended, upper_end}
use Rattle.numbers.specs.Standing.{Rooted, tree_of}
use Rattle.record.specs.Linking.{top_of, bottom_of, Filing, Splitting, Ending, BothParted, BothBy, Building, Walked, WalkedBy}
use Rattle.record.specs.Leaving.{Uses}
use Rattle.record.specs.Recording.{Holds, Stepping, Stepped}
use Rattle.record.proofs.Upper.{ended, back_upper, back_lower}
use Rattle.record.proofs.Climbing.{climb_way}
use Rattle.record.proofs.Ending.{filing_both, both_on, both_off, both_branch}
use Rattle.record.proofs.Counting.{done_most}

-- what the places say of a state
module _ {most : Limits} {p : Plan} {root : ℕ} {first : List ℕ} {rank whole : ℕ → ℕ} {walks : List (List Leg)} {places below tips over : List ℕ} {next : ℕ}
    (rooted : Rooted most p root first rank) (h : Holds p root first rank whole walks places below tips over next) where
  branch_built : (v : ℕ) → Branch (graph p) (all_edges walks) v → Built (graph p) (all_edges walks) v
  branch_built v b = omega (arith, b)

  pub holds_built : (v : ℕ) → Built (graph p) (all_edges walks) v → 1 ≤ read places v
  holds_built v b = filed_built h.state.filed {v = v} b

  pub built_holds : (v : ℕ) → 1 ≤ read places v → Built (graph p) (all_edges walks) v
  built_holds v b = h.state.filed.built v b

  pub holds_filing : Filing most p root first rank below places tips next
  holds_filing = record {
    rooted = rooted;
    shelved = filed_own h.state.filed branch_built;
    belows = belows_map holds_built built_holds h.state.belows;
    links = h.links;
    roomy = h.roomy;
  }

module _ {most : Limits} {ends first number : List ℕ} {f next : ℕ} {places below tips over : List ℕ} {room : ℕ}
    (c : Stepping most ends first number f next places below tips over room) where
  abbrev pub g : Graph
  g = graph (plan c.n ends c.excluded)

  abbrev pub t : Pointers
  t = tree_of (plan c.n ends c.excluded) c.root first (read number)

  abbrev pub built : List ℕ
  built = all_edges c.walks

  -- the ends of f, as the code has them
  pub f_ended : Ended ends number f
  f_ended = ended number c.rooted c.number_long c.chosen.back.joins.edge

  pub upper_at : upper_end ends number f ≡ c.chosen.upper
  upper_at = back_upper number c.rooted c.chosen.back

  pub lower_at : far_end ends f c.chosen.upper ≡ c.chosen.lower
  lower_at = back_lower number c.rooted c.chosen.back

  pub lower_vertex : Vertex g c.chosen.lower
  lower_vertex = joins_vertex (joins_sym c.chosen.back.joins)

  pub lower_below : c.chosen.lower < c.n
  lower_below = vertex_size (plan c.n ends c.excluded) lower_vertex

  pub climb : (legs : List Leg) × (x : ℕ) × Climb g t (Built g built) c.chosen.lower legs x
  climb = climb_built c.rooted.tree c.holds.state.along.held lower_vertex

  abbrev pub legs : List Leg
  legs = climb.0

  abbrev pub end : ℕ
  end = climb.1

  pub path : MaderPath g built c.chosen.upper (leg f c.chosen.upper ∷ legs) end
  path = c.chosen.path legs end climb.2

  pub built_vertex : (v : ℕ) → Built g built v → Vertex g v
  built_vertex v b = built_is_vertex c.rooted.tree c.holds.state.along.held b

  -- to the first built vertex
  abbrev pub toward : Toward most ends first places c.chosen.lower
  toward = record {
    to = end;
    way = climb_way c.rooted climb.2 lower_below;
    room = c.holds.roomy.places_long;
    plain = λ u i. elim (dec_le 1 (read places u)) [
      | yes b ↦ absurd (climb_new climb.2 i (built_holds c.rooted c.holds u b))
      | no m ↦ omega (arith, m)
    ];
    met = λ z. omega (arith, z, holds_built c.rooted c.holds end (climb_end climb.2));
  }

  along_then : Along g t ((leg f c.chosen.upper ∷ legs) ∷ c.walks)
  along_then = along_step c.rooted.tree c.holds.state.along c.chosen.back c.chosen.new climb.2 path

  -- the step's edges are new, so there is room for their rows
  pub some_room : 3 * length legs + 3 ≤ room
  some_room = omega (
    arith,
    done_most along_then.steps along_then.once,
    length-append (edges_of legs) built,
    legs_edges legs,
    c.fits,
  )

  abbrev pub one_more : OneMore most ends first c.chosen.lower end room
  one_more = record { way = climb_way c.rooted climb.2 lower_below; fits = some_room }

  -- both ends become branches
  pub filing : Filing most (plan c.n ends c.excluded) c.root first (read number) below places tips next
  filing = holds_filing c.rooted c.holds

  pub upper_built : 1 ≤ read places c.chosen.upper
  upper_built = holds_built c.rooted c.holds c.chosen.upper path.begins

  abbrev pub splitting_upper : Splitting most ends first below c.chosen.upper next places tips
  splitting_upper = record {
    n = c.n;
    excluded = c.excluded;
    root = c.root;
    rank = read number;
    filing = filing;
    vertex = built_vertex c.chosen.upper path.begins;
    built = upper_built;
  }

  abbrev pub ending : Ending most ends first below c.chosen.upper end next places tips
  ending = record { splitting = splitting_upper; vertex = built_vertex end path.ends; built = holds_built c.rooted c.holds end path.ends }

  -- both are branches
  module _ (places₂ tips₂ : List ℕ) {next₂ : ℕ}
      (both : BothParted g t c.chosen.upper end next (read places) (read places₂) (top_of tips₂) (bottom_of tips₂) next₂)
      (same₂ : (length places₂ ≡ length places) × (length tips₂ ≡ length tips)) where
    marked_upper : Marked g t (λ v. Branch g built v) (read places) both.middle c.chosen.upper
    marked_upper = marked-map (λ p. c.holds.state.filed.branch c.chosen.upper p) both.marked_one

    marked_end : Marked g t (λ v. Branch g built v ⊎ (v ≡ c.chosen.upper)) both.middle (read places₂) end
    marked_end = marked-map (λ p. (filed_marked c.rooted.tree c.holds.state.filed marked_upper).branch end p) both.marked_two

    pub filing_two : Filing most (plan c.n ends c.excluded) c.root first (read number) below places₂ tips₂ next₂
    filing_two = filing_both places₂ tips₂ filing upper_built ending.built both same₂.0 same₂.1

    pub on_two : (v : ℕ) → Built g built v → 1 ≤ read places₂ v
    on_two v b = both_on c.rooted.tree filing.shelved upper_built ending.built both (holds_built c.rooted c.holds v b)

    pub off_two : (v : ℕ) → 1 ≤ read places₂ v → Built g built v
    off_two v b = built_holds c.rooted c.holds v (both_off c.rooted.tree filing.shelved upper_built ending.built both b)

    abbrev pub building : Building most ends first f c.chosen.lower end next₂ places₂ below tips₂ over
    building = record {
      n = c.n;
      excluded = c.excluded;
      root = c.root;
      rank = read number;
      filing = filing_two;
      legs = legs;
      climb = climb_as climb.2 (on_two end path.ends) (λ v i b. climb_new climb.2 i (off_two v b));
      branch = both_branch c.rooted.tree filing.shelved upper_built ending.built both;
      from = lower_below;
      to = vertex_size (plan c.n ends c.excluded) (built_vertex end path.ends);
      edge = joins_edge (plan c.n ends c.excluded) c.chosen.back.joins;
      over_long = c.holds.over_long;
    }

    -- the inside of the walk is a link
    module _ (places₃ below₃ tips₃ over₃ : List ℕ) {next₃ : ℕ}
        (three : Walked g t f legs next₂ (read places₂) (read below) (read over) (read places₃) (read below₃) (top_of tips₃) (bottom_of tips₃) (read over₃) next₃)
        (same₃ : (length places₃ ≡ length places₂) × (length below₃ ≡ length below) × (length tips₃ ≡ length tips₂) × (length over₃ ≡ length over)) where
      uses_then : Uses (edges_of (leg f c.chosen.upper ∷ legs) ++ built) c.whole (read over₃)
      uses_then = record {
        on = λ e i. elim (in-cons i) [
          | inl p ↦ subst (λ (x : ℕ). read over₃ x ≡ 0) (sym p) three.over_edge
          | inr j ↦ elim (in_dec e (edges_of legs)) [
            | yes k ↦ three.over_on e k
            | no k ↦ elim (ℕ_discrete e f) [
              | yes p ↦ subst (λ (x : ℕ). read over₃ x ≡ 0) (sym p) three.over_edge
              | no p ↦ three.over_off e p k ∙ c.holds.uses.on e (elim (in-cases (edges_of legs) j) [ inl l ↦ absurd (k l) | inr l ↦ l ])
            ]
          ]
        ];
        off = λ e m. three.over_off e (λ p. m (first-in p)) (λ i. m (later (in_left built i))) ∙ c.holds.uses.off e (λ i. m (later (in_right (edges_of legs) i)));
      }

      holds_then : Holds (plan c.n ends c.excluded) c.root first (read number) c.whole ((leg f c.chosen.upper ∷ legs) ∷ c.walks) places₃ below₃ tips₃ over₃ next₃
      holds_then = record {
        state = state_step c.rooted.tree c.holds.state c.chosen.back c.chosen.new climb.2 path marked_upper marked_end three.grown three.noted;
        links = three.links;
        uses = uses_then;
        roomy = record {
          below_long = omega (arith, same₃.1, filing_two.roomy.below_long);
          places_long = omega (arith, same₃.0, filing_two.roomy.places_long);
          tips_long = omega (arith, same₃.2, filing_two.roomy.tips_long);
        };
        over_long = omega (arith, same₃.3, c.holds.over_long);
      }

      gone_then : (m : ℕ) → 2 ≤ m → m < next → ((y : ℕ) → read places y ≡ m → ⊥) → (y : ℕ) → read places₃ y ≡ m → ⊥
      gone_then m l h none y p = elim (in_dec y (froms legs)) [
        | yes i ↦ omega (arith, three.grown.new y i, p, h, both.more)
        | no i ↦ both.gone m l h none y (sym (three.grown.away y i) ∙ p)
      ]

      pub stepped : {step count : ℕ} {before after : List ℕ} → next₂ ≤ next₃
          → Written (step_rows step (leg f c.chosen.upper ∷ legs)) before after → count ≡ length legs + 1
          → Stepped (plan c.n ends c.excluded) c.root first (read number) c.whole c.walks step next before after places places₃ below₃ tips₃ over₃ count next₃
      stepped d w q = record {
        legs = leg f c.chosen.upper ∷ legs;
        holds = holds_then;
        written = w;
        counted = omega (arith, q);
        some = omega (arith, q);
        more = omega (arith, both.more, d);
        gone = gone_then;
      }

-- what each part of a step asks, at the vertices that the parts before have found
module _ {most : Limits} {ends first number : List ℕ} {f next s w : ℕ} {places below tips over : List ℕ} {room : ℕ}
    (d : Stepping most ends first number f next places below tips over room) (p : s ≡ upper_end ends number f) (q : w ≡ far_end ends f s) where
  is_upper : s ≡ d.chosen.upper
  is_upper = p ∙ upper_at d

  is_lower : w ≡ d.chosen.lower
  is_lower = (rw is_upper at q) ∙ lower_at d

  pub toward_at : Toward most ends first places w
  toward_at = subst (λ (y : ℕ). Toward most ends first places y) (sym is_lower) (toward d)

  module _ {x : ℕ} (m : MetFirst most ends first places w x) where
    is_end : x ≡ end d
    is_end = (rw is_lower at m) (toward d)

    pub one_more_at : OneMore most ends first w x room
    one_more_at = subst (λ (y : ℕ). OneMore most ends first y x room) (sym is_lower)
        (subst (λ (y : ℕ). OneMore most ends first d.chosen.lower y room) (sym is_end) (one_more d))

    pub ending_at : Ending most ends first below s x next places tips
    ending_at = subst (λ (y : ℕ). Ending most ends first below y x next places tips) (sym is_upper)
        (subst (λ (y : ℕ). Ending most ends first below d.chosen.upper y next places tips) (sym is_end) (ending d))

    module _ (places₂ tips₂ : List ℕ) {next₂ : ℕ} (e : BothBy most ends first below s x next places tips places₂ tips₂ next₂) where
      both_by : BothBy most ends first below d.chosen.upper (end d) next places tips places₂ tips₂ next₂
      both_by = rw is_upper at (rw is_end at e)

      both : BothParted (g d) (t d) d.chosen.upper (end d) next (read places) (read places₂) (top_of tips₂) (bottom_of tips₂) next₂
      both = both_by.2 (ending d)

      same₂ : (length places₂ ≡ length places) × (length tips₂ ≡ length tips)
      same₂ = (e.0, e.1)

      pub building_at : Building most ends first f w x next₂ places₂ below tips₂ over
      building_at = subst (λ (y : ℕ). Building most ends first f y x next₂ places₂ below tips₂ over) (sym is_lower)
          (subst (λ (y : ℕ). Building most ends first f d.chosen.lower y next₂ places₂ below tips₂ over) (sym is_end)
          (building d places₂ tips₂ both same₂))

-- the parts of a step, one after the other
module _ {most : Limits} {ends first number : List ℕ} {f next : ℕ} (step count : ℕ) {places below tips over : List ℕ} (rows : List ℕ)
    (places₂ tips₂ places₃ below₃ tips₃ over₃ rows₃ : List ℕ) {s w x next₂ next₃ : ℕ}
    (p : s ≡ upper_end ends number f) (q : w ≡ far_end ends f s) (m : MetFirst most ends first places w x)
    (r : OverUp most ends first f s w x step rows rows₃ count)
    (e : BothBy most ends first below s x next places tips places₂ tips₂ next₂)
    (k : WalkedBy most ends first f w x next₂ places₂ below tips₂ over places₃ below₃ tips₃ over₃ next₃)
    (d : Stepping most ends first number f next places below tips over (length rows)) where
  walked_by : WalkedBy most ends first f d.chosen.lower (end d) next₂ places₂ below tips₂ over places₃ below₃ tips₃ over₃ next₃
  walked_by = rw (is_lower d p q) at (rw (is_end d p q m) at k)

  written_by : OverUp most ends first f d.chosen.upper d.chosen.lower (end d) step rows rows₃ count
  written_by = rw (is_upper d p q) at (rw (is_lower d p q) at (rw (is_end d p q m) at r))

  walked : Walked (g d) (t d) f (legs d) next₂ (read places₂) (read below) (read over) (read places₃) (read below₃) (top_of tips₃) (bottom_of tips₃) (read over₃) next₃ × (next₂ ≤ next₃)
  walked = walked_by.4 (building d places₂ tips₂ (both d p q m places₂ tips₂ e) (same₂ d p q m places₂ tips₂ e))

  written : Written (step_rows step (leg f d.chosen.upper ∷ legs d)) rows rows₃ × (count ≡ length (legs d) + 1)
  written = written_by (one_more d)

  pub stepped_by : Stepped (plan d.n ends d.excluded) d.root first (read number) d.whole d.walks step next rows rows₃ places places₃ below₃ tips₃ over₃ count next₃
  stepped_by = stepped d places₂ tips₂ (both d p q m places₂ tips₂ e) (same₂ d p q m places₂ tips₂ e) places₃ below₃ tips₃ over₃
      walked.0 (k.0, k.1, k.2, k.3) walked.1 written.0 written.1
