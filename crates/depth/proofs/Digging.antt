-- The turns of the search: what its loop keeps, and what it has found at the end.
use mathlib.Core.Path.{◌≡◌, refl, sym, ap, ◌∙◌, subst}
use mathlib.Core.Logic.{◌⊎◌, inl, inr}
use mathlib.Core.List.Memᴰ.{cases_cons as in-cons}
use mathlib.Core.List.Memᴰ.{head}
use mathlib.Core.List.Memᴰ.{not-nil as not_in}
use mathlib.Core.List.Memᴰ.{tail as later}
use mathlib.Core.List.{List, [], ◌∷◌, Memᴰ as In}
use Prim.Native.Nat.{ℕ, zero, suc, ◌+◌, ◌-◌, ◌≤◌, ◌<◌}
use native.Mathlib.Omega.{arith}
use native.Mathlib.Decide.{ℕ_discrete, dec_lt}
use lib.ListN.{length, get_or, set, length-set}
use lib.Seq.{get_or-set_same, get_or-set_other}
use Rattle.connectivity.proofs.Reach.{joins_sym}
use Rattle.connectivity.specs.Plan.{Plan}
use Rattle.depth.specs.declared.State.{State}
use Rattle.graph.specs.Marks.{read, Marked}
use Rattle.depth.specs.Depth.{root_mark, InGroup, Crossing, Step, Along, stay, EnteredBy, Up, Tree, Found, Fresh, Undone}
use Rattle.depth.specs.Parts.{Rooms, Leads, New, Old, Turned, down, up}
use Rattle.depth.proofs.Edges.{crossing_below, new_is}
use Rattle.depth.proofs.Walk as w
use Rattle.depth.proofs.Walk.{along_on, closed_along, Walk, Way, on, Head, Held, set-marked, set_entered, set_here, set_back, walk_first_long, walk_order_long, walk_deep, walk_rest, walk_counted, walk_now, walk_tree}

-- `path` is the way up from where the search is. The edges before a cursor lead to nothing new; an entered vertex that is not on the way
-- leads to nothing new at all
pub record Digging (p : Plan) (incident begins dead : List ℕ) (root seen : ℕ) (first₀ order₀ cursor₀ first order cursor : List ℕ) (at count depth : ℕ) : Type 0 where
  pub path : List ℕ
  pub walk : Walk (Crossing p incident begins dead) p.vertices root seen first₀ order₀ first order count path
  pub deep : depth ≡ length path
  pub tip : Head (λ (v : ℕ). at ≡ v) path
  pub ahead : (v : ℕ) → EnteredBy p.vertices first₀ first v → (k : ℕ) → get_or begins v 0 ≤ k → k < get_or begins v 0 + get_or cursor v 0 → Old p dead first v (get_or incident k 0)
  pub done : (v : ℕ) → EnteredBy p.vertices first₀ first v → In v path ⊎ ((e x : ℕ) → Crossing p incident begins dead e v x → Marked (read first) x)
  pub cursor_kept : (v : ℕ) → (EnteredBy p.vertices first₀ first v → ⊥) → get_or cursor v 0 ≡ get_or cursor₀ v 0
  pub cursor_long : length cursor ≡ length cursor₀

-- a way that is not empty begins where the search is
split : (at : ℕ) (p : List ℕ) → Head (λ (v : ℕ). at ≡ v) p → 0 < length p → (rest : List ℕ) × (p ≡ at ∷ rest)
split at [] h l = absurd (omega arith)
split at (v ∷ p) h l = (p, ap (λ (x : ℕ). x ∷ p) (sym h))

nothing : (p : List ℕ) → length p ≡ 0 → (v : ℕ) → In v p → ⊥
nothing [] q v i = not_in i
nothing (x ∷ p) q v i = omega arith

module _ (p : Plan) (incident begins dead : List ℕ) (root seen : ℕ) (first₀ order₀ cursor₀ : List ℕ) (fresh : Fresh p.vertices root seen first₀) (rooms : Rooms p.vertices first₀ order₀ cursor₀) where
  abbrev n : ℕ
  n = p.vertices

  abbrev cross : ℕ → ℕ → ℕ → Type 0
  cross = Crossing p incident begins dead

  below_n : (e u v : ℕ) → cross e u v → v < n
  below_n = crossing_below p incident begins dead

  abbrev Digs : List ℕ → List ℕ → List ℕ → ℕ → ℕ → ℕ → Type 0
  Digs first order cursor at count depth = Digging p incident begins dead root seen first₀ order₀ cursor₀ first order cursor at count depth

  start_only : (v : ℕ) → EnteredBy n first₀ (set first₀ root root_mark) v → v ≡ root
  start_only v i = elim (ℕ_discrete v root) [ yes q ↦ q | no ne ↦ absurd (i.marked (get_or-set_other first₀ root v root_mark 0 ne ∙ i.fresh)) ]

  start_entered : EnteredBy n first₀ (set first₀ root root_mark) root
  start_entered = set_here n first₀ first₀ root root_mark (omega (arith, fresh.below, rooms.first_room)) fresh.fresh (λ q. omega arith) fresh.below fresh.fresh

  pub digging_start : Digs (set first₀ root root_mark) (set order₀ seen root) (set cursor₀ root 0) root (seen + 1) 1
  digging_start = record {
    path = root ∷ [];
    walk = w.begin;
    deep = refl;
    tip = refl;
    ahead = λ v i k a b. let q = start_only v i in
        absurd (omega (arith, ap (read (set cursor₀ root 0)) q ∙ get_or-set_same cursor₀ root 0 0 (omega (arith, fresh.below, rooms.cursor_room))));
    done = λ v i. inl (head (start_only v i));
    cursor_kept = λ v h. get_or-set_other cursor₀ root v 0 0 (λ q. h (subst (EnteredBy n first₀ (set first₀ root root_mark)) (sym q) start_entered));
    cursor_long = length-set cursor₀ root 0;
  }

  module _ {first order cursor : List ℕ} {at count depth : ℕ} (t : Digs first order cursor at count depth) where
    held : Held cross n root seen (read first₀) (read first) (read order) (read first) count t.path
    held = walk_now cross n root seen first₀ order₀ fresh rooms.first_room rooms.order_room below_n t.walk

    pub digging_rooms : Rooms n first order cursor
    digging_rooms = record {
      first_room = omega (arith, rooms.first_room, walk_first_long t.walk);
      order_room = omega (arith, rooms.order_room, walk_order_long t.walk);
      cursor_room = omega (arith, rooms.cursor_room, t.cursor_long);
    }

    pub digging_count : count ≤ n
    digging_count = held.room

    pub digging_deep : depth ≤ n
    digging_deep = omega (arith, t.deep, walk_deep t.walk, held.room)

    module _ (l : 0 < depth) where
      abbrev rest : List ℕ
      rest = (split at t.path t.tip (omega (arith, t.deep))).0

      path_is : t.path ≡ at ∷ rest
      path_is = (split at t.path t.tip (omega (arith, t.deep))).1

      pub at_entered : EnteredBy n first₀ first at
      at_entered = held.among at (subst (In at) (sym path_is) (head refl))

      walk_at : Walk cross n root seen first₀ order₀ first order count (at ∷ rest)
      walk_at = subst (Walk cross n root seen first₀ order₀ first order count) path_is t.walk

      way_at : Way (Up cross n (read first₀) (read first)) (at ∷ rest)
      way_at = subst (Way (Up cross n (read first₀) (read first))) path_is held.way

      -- down
      module _ (k x : ℕ) (low : get_or begins at 0 + get_or cursor at 0 ≤ k)
          (passed : (i : ℕ) → get_or begins at 0 + get_or cursor at 0 ≤ i → i < k → Old p dead first at (get_or incident i 0))
          (g : InGroup n (length p.ends) begins at k) (f : count < n) (d : New p dead first at (get_or incident k 0) x) (m : Leads p dead at (get_or incident k 0) x) where
        abbrev mark : ℕ
        mark = get_or incident k 0 + 1

        abbrev cursor⁺ : List ℕ
        cursor⁺ = set (set cursor at (k + 1 - get_or begins at 0)) x 0

        lx : x < n
        lx = (new_is p dead first at (get_or incident k 0) x m d).1

        inside : x < length first
        inside = omega (arith, lx, digging_rooms.first_room)

        pos : mark ≡ 0 → ⊥
        pos q = omega arith

        crosses : cross (get_or incident k 0) at x
        crosses = record { place = k; group = g; listed = refl; live = d.live; joins = d.joins }

        was_fresh : get_or first₀ x 0 ≡ 0
        was_fresh = elim (ℕ_discrete (get_or first₀ x 0) 0) [ yes q ↦ q | no b ↦ absurd (b (sym (held.kept x (λ i. b i.fresh)) ∙ d.fresh)) ]

        new_entered : EnteredBy n first₀ (set first x mark) x
        new_entered = set_here n first₀ first x mark inside d.fresh pos lx was_fresh

        older : {v e : ℕ} → Old p dead first v e → Old p dead (set first x mark) v e
        older o y a b = set-marked n first₀ first x mark inside d.fresh pos y (o y a b)

        back : (v : ℕ) → (v ≡ x → ⊥) → EnteredBy n first₀ (set first x mark) v → EnteredBy n first₀ first v
        back v ne i = set_back n first₀ first x mark inside d.fresh pos v ne i

        cursor_new : get_or cursor⁺ x 0 ≡ 0
        cursor_new = get_or-set_same (set cursor at (k + 1 - get_or begins at 0)) x 0 0 (omega (arith, lx, digging_rooms.cursor_room, length-set cursor at (k + 1 - get_or begins at 0)))

        cursor_at : (at ≡ x → ⊥) → get_or cursor⁺ at 0 ≡ k + 1 - get_or begins at 0
        cursor_at ne = get_or-set_other (set cursor at (k + 1 - get_or begins at 0)) x at 0 0 ne
            ∙ get_or-set_same cursor at (k + 1 - get_or begins at 0) 0 (omega (arith, at_entered.below, digging_rooms.cursor_room))

        cursor_other : (v : ℕ) → (v ≡ x → ⊥) → (v ≡ at → ⊥) → get_or cursor⁺ v 0 ≡ get_or cursor v 0
        cursor_other v ne na = get_or-set_other (set cursor at (k + 1 - get_or begins at 0)) x v 0 0 ne ∙ get_or-set_other cursor at v (k + 1 - get_or begins at 0) 0 na

        -- the edges of the vertex that is left, up to the one that leads on
        before_next : (i : ℕ) → get_or begins at 0 ≤ i → i < k + 1 → Old p dead (set first x mark) at (get_or incident i 0)
        before_next i a b = elim (dec_lt i (get_or begins at 0 + get_or cursor at 0)) [
          | yes c ↦ older (t.ahead at at_entered i a c)
          | no c ↦ elim (ℕ_discrete i k) [
            | no ne ↦ older (passed i (omega arith) (omega arith))
            | yes q ↦ rw q (λ y u j. rw (m.whole y u j) new_entered.marked)
          ]
        ]

        digging_down : Digs (set first x mark) (set order count x) cursor⁺ x (count + 1) (depth + 1)
        digging_down = record {
          path = x ∷ (at ∷ rest);
          walk = w.down (get_or incident k 0) x walk_at crosses lx d.fresh f;
          deep = omega (arith, t.deep, ap length path_is);
          tip = refl;
          ahead = λ v i j a b. elim (ℕ_discrete v x) [
            | yes q ↦ absurd (omega (arith, ap (read cursor⁺) q ∙ cursor_new))
            | no ne ↦ elim (ℕ_discrete v at) [
              | yes q ↦ subst (λ (y : ℕ). Old p dead (set first x mark) y (get_or incident j 0)) (sym q)
                  (before_next j (omega (arith, ap (read begins) q))
                  (omega (arith, g.from, ap (read begins) q, ap (read cursor⁺) q ∙ cursor_at (λ p. ne (q ∙ p)))))
              | no na ↦ older (t.ahead v (back v ne i) j a (omega (arith, cursor_other v ne na)))
            ]
          ];
          done = λ v i. elim (ℕ_discrete v x) [
            | yes q ↦ inl (head q)
            | no ne ↦ elim (ℕ_discrete v at) [
              | yes q ↦ inl (later (head q))
              | no na ↦ elim (t.done v (back v ne i)) [
                | inl j ↦ inl (later (subst (In v) path_is j))
                | inr c ↦ inr (λ e y z. set-marked n first₀ first x mark inside d.fresh pos y (c e y z))
              ]
            ]
          ];
          cursor_kept = λ v h. cursor_other v (λ q. h (subst (EnteredBy n first₀ (set first x mark)) (sym q) new_entered))
              (λ q. h (set_entered n first₀ first x mark inside d.fresh pos v (subst (EnteredBy n first₀ first) (sym q) at_entered)))
              ∙ t.cursor_kept v (λ i. h (set_entered n first₀ first x mark inside d.fresh pos v i));
          cursor_long = length-set (set cursor at (k + 1 - get_or begins at 0)) x 0 ∙ length-set cursor at (k + 1 - get_or begins at 0) ∙ t.cursor_long;
        }

      -- up
      module _ (r : ℕ) (old : (i : ℕ) → get_or begins at 0 + get_or cursor at 0 ≤ i → InGroup n (length p.ends) begins at i → Old p dead first at (get_or incident i 0))
          (m : Leads p dead at (get_or first at 0 - 1) r) where
        closed : (e x : ℕ) → cross e at x → Marked (read first) x
        closed e x c = elim (dec_lt c.place (get_or begins at 0 + get_or cursor at 0)) [
          | yes b ↦ subst (λ (d : ℕ). Old p dead first at d) c.listed (t.ahead at at_entered c.place c.group.from b) x c.live c.joins
          | no b ↦ subst (λ (d : ℕ). Old p dead first at d) c.listed (old c.place (omega arith) c.group) x c.live c.joins
        ]

        tip_up : (l : List ℕ) → Way (Up cross n (read first₀) (read first)) (at ∷ l) → Head (λ (v : ℕ). r ≡ v) l
        tip_up [] z = tt
        tip_up (q ∷ l) (on c z) = sym (m.whole q c.by.live (joins_sym c.by.joins))

        digging_up : Digs first order cursor r count (depth - 1)
        digging_up = record {
          path = rest;
          walk = w.up walk_at closed;
          deep = omega (arith, t.deep, ap length path_is);
          tip = tip_up rest way_at;
          ahead = t.ahead;
          done = λ v i. elim (ℕ_discrete v at) [
            | yes q ↦ inr (subst (λ (y : ℕ). (e x : ℕ) → cross e y x → Marked (read first) x) (sym q) closed)
            | no na ↦ elim (t.done v i) [
              | inl j ↦ elim (in-cons (subst (In v) path_is j)) [ inl q ↦ absurd (na q) | inr o ↦ inl o ]
              | inr c ↦ inr c
            ]
          ];
          cursor_kept = t.cursor_kept;
          cursor_long = t.cursor_long;
        }

    -- the end: the search has left the root, or the order is full; then the cursors of what was entered are cleared along the order
    module _ {cleared : List ℕ} (z : (0 < depth) × (count < n) → ⊥) (u : Undone order seen count cursor cleared) where
      tree : Tree cross n root seen (read first₀) (read first) (read order) count
      tree = walk_tree cross n root seen first₀ order₀ fresh rooms.first_room rooms.order_room below_n t.walk

      come_to : (m k : ℕ) → k < m → seen ≤ k → k < count → Along (Step cross (read first₀)) root (get_or order k 0)
      come_to zero k l a b = absurd (omega arith)
      come_to (suc m) k l a b = elim (ℕ_discrete k seen) [
        | yes q ↦ rw (q, tree.top) stay
        | no ne ↦ let h = tree.hangs k (omega arith) b in
            along_on (subst (Along (Step cross (read first₀)) root) h.stands.there (come_to m h.stands.place (omega (arith, h.stands.high)) h.stands.low (omega (arith, h.stands.high))))
            (record { crossing = h.up.by; fresh = h.up.entered.fresh })
      ]

      finished : count < n → (v : ℕ) → EnteredBy n first₀ first v → (e x : ℕ) → cross e v x → Marked (read first) x
      finished l v i = elim (t.done v i) [ inl j ↦ absurd (nothing t.path (empty l) v j) | inr c ↦ c ]
        where
          empty : count < n → length t.path ≡ 0
          empty l = elim (dec_lt 0 depth) [ yes b ↦ absurd (z (b, l)) | no b ↦ omega (arith, t.deep) ]

      root_entered : EnteredBy n first₀ first root
      root_entered = subst (EnteredBy n first₀ first) tree.top (tree.valid seen (omega arith) tree.some)

      pub digging_end : Found cross n root seen first₀ order₀ cursor₀ first order cleared count
      digging_end = record {
        tree = tree;
        sound = λ v i. let s = tree.listed v i in subst (Along (Step cross (read first₀)) root) s.there (come_to (suc s.place) s.place (omega arith) s.low s.high);
        room = held.room;
        whole = λ l v y. closed_along (EnteredBy n first₀ first) (λ e u x s i. record { below = below_n e u x s.crossing; fresh = s.fresh; marked = finished l u i e x s.crossing }) y root_entered;
        counted = walk_counted cross n root seen first₀ order₀ fresh rooms.first_room rooms.order_room t.walk;
        kept = held.kept;
        rest = walk_rest t.walk;
        cleared = λ v i. let s = tree.listed v i in subst (λ (x : ℕ). get_or cleared x 0 ≡ 0) s.there (u.gone s.place s.low s.high (omega (arith, s.high, held.room, digging_rooms.order_room)));
        cursor_kept = λ v h. u.kept v (λ k a b l q. h (subst (EnteredBy n first₀ first) q (tree.valid k a b))) ∙ t.cursor_kept v h;
        first_long = walk_first_long t.walk;
        order_long = walk_order_long t.walk;
        cursor_long = u.long ∙ t.cursor_long;
      }

  -- a turn
  pub digging_turn : {first order cursor first' order' cursor' : List ℕ} {s r : State} → Digs first order cursor s.at s.count s.depth → 0 < s.depth → s.count < n
      → Turned p incident begins dead s first order cursor first' order' cursor' r → Digs first' order' cursor' r.at r.count r.depth
  digging_turn {first} {s = s} {r = r} t l f (down k x a b g d c) = rw (c.first_is, c.order_is, c.cursor_is, c.count_is, c.depth_is)
      (digging_down t l k r.at a b g f (subst (New p dead first s.at (get_or incident k 0)) (new_is p dead first s.at (get_or incident k 0) r.at c.leads d).0 d) c.leads)
  digging_turn {s = s} {r = r} t l f (up h x y z c) = rw (x, y, z, c.count_is, c.depth_is) (digging_up t l r.at h c.leads)

  -- turns end
  pub turn_less : {first order cursor first' order' cursor' : List ℕ} {s r : State} → 0 < s.depth → s.count < n → Turned p incident begins dead s first order cursor first' order' cursor' r
      → (n - r.count) + (n - r.count) + r.depth < (n - s.count) + (n - s.count) + s.depth
  turn_less l f (down k x a b g d c) = omega (arith, f, c.count_is, c.depth_is)
  turn_less l f (up h x y z c) = omega (arith, c.count_is, c.depth_is)
