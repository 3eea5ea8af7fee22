-- A depth-first search as a chain of steps down and up, and the tree that it leaves.
use mathlib.Core.Path.{◌≡◌, refl, sym, ap, ◌∙◌, subst}
use mathlib.Core.Logic.{◌⊎◌, inl, inr}
use mathlib.Core.List.Memᴰ.{head}
use mathlib.Core.List.Memᴰ.{tail as later}
use mathlib.Core.List.{List, [], ◌∷◌, Memᴰ as In}
use Prim.Native.Nat.{ℕ, ◌+◌, ◌-◌, ◌≤◌, ◌<◌}
use native.Mathlib.Omega.{arith}
use native.Mathlib.Decide.{ℕ_discrete}
use borrow.Author.Count.{below_more}
use lib.ListN.{length, get_or, set, length-set}
use lib.Seq.{get_or-set_same, get_or-set_other}
use Rattle.graph.specs.Marks.{read, Marked, tally}
use Rattle.depth.specs.Depth.{root_mark, Along, stay, leave, Entered, EnteredBy, Up, Climb, here, rise, Stands, Closed, Hangs, Tree, Fresh}
use Rattle.graph.proofs.Tally.{tally-set}

-- a way goes on by one step
pub along_on : {step : ℕ → ℕ → ℕ → Type 0} {u v w e : ℕ} → Along step u v → step e v w → Along step u w
along_on {e = e} stay s = leave e s stay
along_on (leave d t r) s = leave d t (along_on r s)

-- a set that no step leaves has whatever a way leads to
pub closed_along : {step : ℕ → ℕ → ℕ → Type 0} (S : ℕ → Type 0) → ((e u v : ℕ) → step e u v → S u → S v) → {u v : ℕ} → Along step u v → S u → S v
closed_along S c stay s = s
closed_along S c (leave {u} {v} e t r) s = closed_along S c r (c e u v t s)

-- the vertices on the way up from where the search is; a vertex is left if it leads to nothing new
pub data Walk (cross : ℕ → ℕ → ℕ → Type 0) (n root seen : ℕ) (first₀ order₀ : List ℕ) : List ℕ → List ℕ → ℕ → List ℕ → Type 0 where
  begin : Walk cross n root seen first₀ order₀ (set first₀ root root_mark) (set order₀ seen root) (seen + 1) (root ∷ [])
  down : {first order : List ℕ} {count u : ℕ} {path : List ℕ} (e w : ℕ) → Walk cross n root seen first₀ order₀ first order count (u ∷ path) → cross e u w → w < n → get_or first w 0 ≡ 0 → count < n
      → Walk cross n root seen first₀ order₀ (set first w (e + 1)) (set order count w) (count + 1) (w ∷ (u ∷ path))
  up : {first order : List ℕ} {count v : ℕ} {path : List ℕ} → Walk cross n root seen first₀ order₀ first order count (v ∷ path) → ((e w : ℕ) → cross e v w → Marked (read first) w)
      → Walk cross n root seen first₀ order₀ first order count path

-- each is entered from the next
pub data Way (above : ℕ → ℕ → Type 0) : List ℕ → Type 0 where
  none : Way above []
  one : {v : ℕ} → Way above (v ∷ [])
  on : {v u : ℕ} {path : List ℕ} → above u v → Way above (u ∷ path) → Way above (v ∷ (u ∷ path))

-- the first of them, if there is one
abbrev pub Head : (ℕ → Type 0) → List ℕ → Type 0
Head P [] = Unit {0}
Head P (v ∷ path) = P v

-- later marks and a later order agree with these
pub record Extends (mark at : ℕ → ℕ) (count : ℕ) (last places : ℕ → ℕ) : Type 0 where
  pub marks : (v : ℕ) → Marked mark v → last v ≡ mark v
  pub order_same : (k : ℕ) → k < count → places k ≡ at k

-- what holds on the way, with the marks and the order as they will be
pub record Held (cross : ℕ → ℕ → ℕ → Type 0) (n root seen : ℕ) (mark₀ last places mark : ℕ → ℕ) (count : ℕ) (path : List ℕ) : Type 0 where
  pub valid : (k : ℕ) → seen ≤ k → k < count → Entered n mark₀ mark (places k)
  pub listed : (v : ℕ) → Entered n mark₀ mark v → Stands places seen count v
  pub once : (j k : ℕ) → seen ≤ j → j < k → k < count → places j ≡ places k → ⊥
  pub some : seen < count
  pub room : count ≤ n
  pub top : places seen ≡ root
  pub top_mark : last root ≡ root_mark
  pub hangs : (k : ℕ) → seen < k → k < count → Hangs cross n seen mark₀ last places k
  pub kept : (v : ℕ) → (Entered n mark₀ mark v → ⊥) → mark v ≡ mark₀ v
  pub way : Way (Up cross n mark₀ last) path
  pub among : (v : ℕ) → In v path → Entered n mark₀ mark v
  pub climb : Head (Climb (Up cross n mark₀ last) (Closed cross mark₀ places seen count) (places (count - 1))) path

-- one more mark
module _ (n : ℕ) (first₀ first : List ℕ) (w x : ℕ) (room : w < length first) (z : get_or first w 0 ≡ 0) (pos : x ≡ 0 → ⊥) where
  pub set_new : get_or (set first w x) w 0 ≡ x
  set_new = get_or-set_same first w x 0 room

  pub set_same : (v : ℕ) → Marked (read first) v → get_or (set first w x) v 0 ≡ get_or first v 0
  set_same v m = get_or-set_other first w v x 0 (λ q. m (ap (read first) q ∙ z))

  pub set-marked : (v : ℕ) → Marked (read first) v → Marked (read (set first w x)) v
  set-marked v m q = m (sym (set_same v m) ∙ q)

  pub set_entered : (v : ℕ) → EnteredBy n first₀ first v → EnteredBy n first₀ (set first w x) v
  set_entered v i = record { below = i.below; fresh = i.fresh; marked = set-marked v i.marked }

  pub set_here : w < n → get_or first₀ w 0 ≡ 0 → EnteredBy n first₀ (set first w x) w
  set_here l f = record { below = l; fresh = f; marked = λ q. pos (sym set_new ∙ q) }

  pub set_back : (v : ℕ) → (v ≡ w → ⊥) → EnteredBy n first₀ (set first w x) v → EnteredBy n first₀ first v
  set_back v ne i = record { below = i.below; fresh = i.fresh; marked = λ q. i.marked (get_or-set_other first w v x 0 ne ∙ q) }

module _ {cross : ℕ → ℕ → ℕ → Type 0} {n root seen : ℕ} {first₀ order₀ : List ℕ} where
  pub walk_first_long : {first order : List ℕ} {count : ℕ} {path : List ℕ} → Walk cross n root seen first₀ order₀ first order count path → length first ≡ length first₀
  walk_first_long begin = length-set first₀ root root_mark
  walk_first_long (down {first} e w t c lw z f) = length-set first w (e + 1) ∙ walk_first_long t
  walk_first_long (up t h) = walk_first_long t

  pub walk_order_long : {first order : List ℕ} {count : ℕ} {path : List ℕ} → Walk cross n root seen first₀ order₀ first order count path → length order ≡ length order₀
  walk_order_long begin = length-set order₀ seen root
  walk_order_long (down {order = order} {count = count} e w t c lw z f) = length-set order count w ∙ walk_order_long t
  walk_order_long (up t h) = walk_order_long t

  -- the way up is no longer than the order
  pub walk_deep : {first order : List ℕ} {count : ℕ} {path : List ℕ} → Walk cross n root seen first₀ order₀ first order count path → length path ≤ count
  walk_deep begin = omega arith
  walk_deep (down e w t c lw z f) = omega (arith, walk_deep t)
  walk_deep (up t h) = omega (arith, walk_deep t)

  pub walk_count : {first order : List ℕ} {count : ℕ} {path : List ℕ} → Walk cross n root seen first₀ order₀ first order count path → seen < count
  walk_count begin = omega arith
  walk_count (down e w t c lw z f) = omega (arith, walk_count t)
  walk_count (up t h) = walk_count t

  -- the rest of the order stays
  pub walk_rest : {first order : List ℕ} {count : ℕ} {path : List ℕ} → Walk cross n root seen first₀ order₀ first order count path → (k : ℕ) → (k < seen) ⊎ (count ≤ k) → get_or order k 0 ≡ get_or order₀ k 0
  walk_rest begin k (inl h) = get_or-set_other order₀ seen k root 0 (λ q. omega arith)
  walk_rest begin k (inr h) = get_or-set_other order₀ seen k root 0 (λ q. omega arith)
  walk_rest (down {order = order} {count = count} e w t c lw z f) k (inl h) = get_or-set_other order count k w 0 (λ q. omega (arith, walk_count t)) ∙ walk_rest t k (inl h)
  walk_rest (down {order = order} {count = count} e w t c lw z f) k (inr h) = get_or-set_other order count k w 0 (λ q. omega arith) ∙ walk_rest t k (inr (omega arith))
  walk_rest (up t h) k r = walk_rest t k r

module _ (cross : ℕ → ℕ → ℕ → Type 0) (n root seen : ℕ) (first₀ order₀ : List ℕ) where
  module _ (fresh : Fresh n root seen first₀) (first_room : n ≤ length first₀) (order_room : n ≤ length order₀) where
    -- so many marks are new
    pub walk_counted : {first order : List ℕ} {count : ℕ} {path : List ℕ} → Walk cross n root seen first₀ order₀ first order count path → count + tally (read first₀) n ≡ seen + tally (read first) n
    walk_counted begin = omega (arith, tally-set first₀ n root root_mark fresh.below first_room fresh.fresh (λ q. omega arith))
    walk_counted (down {first} e w t c lw z f) = omega (arith, walk_counted t, tally-set first n w (e + 1) lw (omega (arith, walk_first_long t)) z (λ q. omega arith))
    walk_counted (up t h) = walk_counted t

    module _ (below_n : (e u v : ℕ) → cross e u v → v < n) (last places : ℕ → ℕ) where
      abbrev above : ℕ → ℕ → Type 0
      above = Up cross n (read first₀) last

      -- the first step
      module _ (x : Extends (read (set first₀ root root_mark)) (read (set order₀ seen root)) (seen + 1) last places) where
        begin_mark : get_or (set first₀ root root_mark) root 0 ≡ root_mark
        begin_mark = get_or-set_same first₀ root root_mark 0 (omega (arith, fresh.below))

        begin_there : places seen ≡ root
        begin_there = x.order_same seen (omega arith) ∙ get_or-set_same order₀ seen root 0 (omega (arith, fresh.room))

        begin_entered : EnteredBy n first₀ (set first₀ root root_mark) root
        begin_entered = record { below = fresh.below; fresh = fresh.fresh; marked = λ q. omega (arith, begin_mark, q) }

        only : (k : ℕ) → seen ≤ k → k < seen + 1 → k ≡ seen
        only k a b = omega arith

        held_begin : Held cross n root seen (read first₀) last places (read (set first₀ root root_mark)) (seen + 1) (root ∷ [])
        held_begin = record {
          valid = λ k a b. rw (only k a b, begin_there) begin_entered;
          listed = λ v i. elim (ℕ_discrete v root) [
            | yes q ↦ record { place = seen; low = omega arith; high = omega arith; there = begin_there ∙ sym q }
            | no ne ↦ absurd (i.marked (get_or-set_other first₀ root v root_mark 0 ne ∙ i.fresh))
          ];
          once = λ j k a b d. absurd (omega arith);
          some = omega arith;
          room = omega (arith, fresh.room);
          top = begin_there;
          top_mark = x.marks root begin_entered.marked ∙ begin_mark;
          hangs = λ k a b. absurd (omega arith);
          kept = λ v h. get_or-set_other first₀ root v root_mark 0 (λ q. h (subst (EnteredBy n first₀ (set first₀ root root_mark)) (sym q) begin_entered));
          way = one;
          among = λ v i. elim i [ head q ↦ subst (EnteredBy n first₀ (set first₀ root root_mark)) (sym q) begin_entered | later j ↦ absurd (elim j [ ]) ];
          climb = let p : seen + 1 - 1 ≡ seen = omega arith in rw (p, begin_there) here;
        }

      -- a step down
      module _ (first order : List ℕ) (count u : ℕ) (path : List ℕ) (first_long : length first ≡ length first₀) (order_long : length order ≡ length order₀) (e w : ℕ)
          (c : cross e u w) (lw : w < n) (z : get_or first w 0 ≡ 0) (f : count < n) (x : Extends (read (set first w (e + 1))) (read (set order count w)) (count + 1) last places) where
        abbrev first⁺ : List ℕ
        first⁺ = set first w (e + 1)

        inside : w < length first
        inside = omega (arith, lw)

        pos : e + 1 ≡ 0 → ⊥
        pos q = omega arith

        extends_back : Extends (read first) (read order) count last places
        extends_back = record {
          marks = λ v m. x.marks v (set-marked n first₀ first w (e + 1) inside z pos v m) ∙ set_same n first₀ first w (e + 1) inside z pos v m;
          order_same = λ k l. x.order_same k (omega arith) ∙ get_or-set_other order count k w 0 (λ q. omega arith);
        }

        there_new : places count ≡ w
        there_new = x.order_same count (omega arith) ∙ get_or-set_same order count w 0 (omega arith)

        module _ (h : Held cross n root seen (read first₀) last places (read first) count (u ∷ path)) where
          was_fresh : get_or first₀ w 0 ≡ 0
          was_fresh = elim (ℕ_discrete (get_or first₀ w 0) 0) [ yes q ↦ q | no b ↦ absurd (b (sym (h.kept w (λ i. b i.fresh)) ∙ z)) ]

          new_entered : EnteredBy n first₀ first⁺ w
          new_entered = set_here n first₀ first w (e + 1) inside z pos lw was_fresh

          new_mark : last w ≡ e + 1
          new_mark = x.marks w new_entered.marked ∙ set_new n first₀ first w (e + 1) inside z pos

          new_up : above u w
          new_up = record {
            entered = record { below = lw; fresh = was_fresh; marked = λ q. omega (arith, new_mark, q) };
            by = let p : last w - 1 ≡ e = omega (arith, new_mark) in rw p c;
          }

          old : (v : ℕ) → EnteredBy n first₀ first v → EnteredBy n first₀ first⁺ v
          old v i = set_entered n first₀ first w (e + 1) inside z pos v i

          wider : {v : ℕ} → Stands places seen count v → Stands places seen (count + 1) v
          wider s = record { place = s.place; low = s.low; high = omega (arith, s.high); there = s.there }

          held_down : Held cross n root seen (read first₀) last places (read first⁺) (count + 1) (w ∷ (u ∷ path))
          held_down = record {
            valid = λ k a b. below_more (λ (k : ℕ). seen ≤ k → EnteredBy n first₀ first⁺ (places k)) count (λ k b a. old _ (h.valid k a b)) (λ a. rw there_new new_entered) k b a;
            listed = λ v i. elim (ℕ_discrete v w) [
              | yes q ↦ record { place = count; low = omega (arith, h.some); high = omega arith; there = there_new ∙ sym q }
              | no ne ↦ wider (h.listed v (set_back n first₀ first w (e + 1) inside z pos v ne i))
            ];
            once = λ j k a b d. below_more (λ (k : ℕ). (j : ℕ) → seen ≤ j → j < k → places j ≡ places k → ⊥) count
                (λ k d j a b q. h.once j k a b d q)
                (λ j a b q. (h.valid j a b).marked (ap (read first) (q ∙ there_new) ∙ z)) k d j a b;
            some = omega (arith, h.some);
            room = omega arith;
            top = h.top;
            top_mark = h.top_mark;
            hangs = λ k a b. below_more (λ (k : ℕ). seen < k → Hangs cross n seen (read first₀) last places k) count (λ k b a. h.hangs k a b) (λ a. record {
              from = u;
              stands = h.listed u (h.among u (head refl));
              up = rw there_new new_up;
              climb = h.climb;
            }) k b a;
            kept = λ v g. elim (ℕ_discrete v w) [
              | yes q ↦ absurd (g (subst (EnteredBy n first₀ first⁺) (sym q) new_entered))
              | no ne ↦ get_or-set_other first w v (e + 1) 0 ne ∙ h.kept v (λ i. g (old v i))
            ];
            way = on new_up h.way;
            among = λ v i. elim i [ head q ↦ subst (EnteredBy n first₀ first⁺) (sym q) new_entered | later j ↦ old v (h.among v j) ];
            climb = let p : count + 1 - 1 ≡ count = omega arith in rw (p, there_new) here;
          }

      -- a step up
      module _ {mark : ℕ → ℕ} {count v : ℕ} {path : List ℕ} (c : (e w : ℕ) → cross e v w → Marked mark w) (h : Held cross n root seen (read first₀) last places mark count (v ∷ path)) where
        closed : Closed cross (read first₀) places seen count v
        closed e w x = elim (ℕ_discrete (get_or first₀ w 0) 0) [
          | no m ↦ inl m
          | yes z ↦ inr (h.listed w (record { below = below_n e v w x; fresh = z; marked = c e w x }))
        ]

        held_up : Held cross n root seen (read first₀) last places mark count path
        held_up = record {
          valid = h.valid;
          listed = h.listed;
          once = h.once;
          some = h.some;
          room = h.room;
          top = h.top;
          top_mark = h.top_mark;
          hangs = h.hangs;
          kept = h.kept;
          way = rest h.way;
          among = λ x i. h.among x (later i);
          climb = climbed h.way h.climb closed;
        }
          where
            rest : {v : ℕ} {path : List ℕ} → Way (Up cross n (read first₀) last) (v ∷ path) → Way (Up cross n (read first₀) last) path
            rest one = none
            rest (on p t) = t

            climbed : {v : ℕ} {path : List ℕ} → Way (Up cross n (read first₀) last) (v ∷ path) → Climb (Up cross n (read first₀) last) (Closed cross (read first₀) places seen count) (places (count - 1)) v
                → Closed cross (read first₀) places seen count v → Head (Climb (Up cross n (read first₀) last) (Closed cross (read first₀) places seen count) (places (count - 1))) path
            climbed one m d = tt
            climbed (on p t) m d = rise m d p

      pub walk_held : {first order : List ℕ} {count : ℕ} {path : List ℕ} → Walk cross n root seen first₀ order₀ first order count path → Extends (read first) (read order) count last places
          → Held cross n root seen (read first₀) last places (read first) count path
      walk_held begin x = held_begin x
      walk_held (down {first} {order} {count} {u} {path} e w t c lw z f) x =
          held_down first order count u path (walk_first_long t) (walk_order_long t) e w c lw z f x
          (walk_held t (extends_back first order count u path (walk_first_long t) (walk_order_long t) e w c lw z f x))
      walk_held (up t c) x = held_up c (walk_held t x)

    -- with the marks and the order as they are
    module _ (below_n : (e u v : ℕ) → cross e u v → v < n) {first order : List ℕ} {count : ℕ} {path : List ℕ} (t : Walk cross n root seen first₀ order₀ first order count path) where
      pub walk_now : Held cross n root seen (read first₀) (read first) (read order) (read first) count path
      walk_now = walk_held below_n (read first) (read order) t (record { marks = λ v m. refl; order_same = λ k l. refl })

      pub walk_tree : Tree cross n root seen (read first₀) (read first) (read order) count
      walk_tree = let h = walk_now in record {
        valid = h.valid;
        listed = h.listed;
        once = h.once;
        some = h.some;
        top = h.top;
        top_mark = h.top_mark;
        hangs = h.hangs;
      }
