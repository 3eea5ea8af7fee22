-- The list of pieces and groups: how it is filled, and that its lines are the text of the groups.
use mathlib.Core.Path.{◌≡◌, refl, sym, ap, ◌∙◌}
use mathlib.Core.Bool.{Bool, true, false, not, cond}
use mathlib.Core.List.Memᴰ.{head as first}
use mathlib.Core.List.Memᴰ.{tail as later}
use mathlib.Core.List.{List, [], ◌∷◌, ◌++◌, append-nil, Memᴰ as In}
use Prim.Native.Nat.{ℕ, suc, ◌+◌, ◌*◌, ◌/◌, ◌≤◌, ◌<◌}
use native.Mathlib.Omega.{arith}
use lib.Dec.{eqb→eq}
use lib.ListN.{length, take, drop, get_or, set, length-append, get_or-append}
use lib.Seq.{sets, length-sets, take_at}
use borrow.Author.Tests.{eq-eqb, ne_eqb}
use Rattle.connectivity.specs.Lists.{range, keep, mem}
use Rattle.connectivity.specs.Plan.{Plan, graph, Limits}
use Rattle.connectivity.specs.Graph.{Graph, vertices}
use Rattle.connectivity.specs.Admission.{Admitted}
use Rattle.connectivity.specs.Component.{component_of, components}
use Rattle.connectivity.proofs.Lists.{true-T, not_mem, keep_is, range_is}
use Rattle.connectivity.proofs.Search.{vertices_are}
use Rattle.connectivity.proofs.Order.{ordered_same, ordered_range, ordered_keep, ordered_vertices}
use Rattle.connectivity.proofs.Kept.{vertex_is, vertex_size, admitted_count}
use Rattle.connectivity.proofs.Component.{components-length, components_at}
use Rattle.graph.specs.Excluded.{is_open, MarkedAll}
use Rattle.graph.proofs.Rank.{keep_more, keep-length, rank_most}
use Rattle.text.specs.Column.{line, lines}
use Rattle.text.specs.Plan.{filled}
use Rattle.text.specs.Lines.{write_text, write_lines}
use Rattle.text.proofs.Laws.{sets_append}
use Rattle.text.proofs.Reading.{sets_filled}
use Rattle.text.proofs.Writing.{in_columns}
use Rattle.components_texts.specs.Groups.{group_lines, groups_text}
use Rattle.components_texts.specs.Pairs.{pairs, group_pairs, pair_unless, others, Paired}

-- How it is filled.

length_pairs : (f : ℕ → ℕ) (l : List ℕ) → length (pairs f l) ≡ 2 * length l
unfolding pairs
length_pairs f [] = refl
length_pairs f (v ∷ l) = omega (arith, length_pairs f l)

pairs-same : (f h : ℕ → ℕ) (l : List ℕ) → ((v : ℕ) → In v l → f v ≡ h v) → pairs f l ≡ pairs h l
unfolding pairs
pairs-same f h [] s = refl
pairs-same f h (v ∷ l) s = rw (s v (first refl), pairs-same f h l (λ w i. s w (later i)))

-- a table whose front are the groups
table_at : (p : Plan) (before : List ℕ) {table : List ℕ} → table ≡ filled (components (graph p)) before → (v : ℕ) → v < p.vertices → get_or table v 0 ≡ component_of (graph p) v
unfolding graph
table_at p before q v h =
    ap (λ (l : List ℕ). get_or l v 0) q ∙ get_or-append (components (graph p)) (drop (length (components (graph p))) before) 0 v (omega (arith, components-length (graph p)))
    ∙ components_at (graph p) v h

pairs-append : (f : ℕ → ℕ) (l r : List ℕ) → pairs f (l ++ r) ≡ pairs f l ++ pairs f r
unfolding pairs
pairs-append f [] r = refl
pairs-append f (v ∷ l) r = rw (pairs-append f l r)

-- one pair
module _ (list : List ℕ) (at mark v x : ℕ) where
  pub pair_none : (mark ≡ 0 → ⊥) → (at ≡ at + length (pair_unless mark v x)) × (list ≡ sets list at (pair_unless mark v x))
  unfolding pair_unless
  pair_none h = rw (ne_eqb mark 0 h) (omega arith, refl)

  pub pair_one : mark ≡ 0 → (at + 2 ≡ at + length (pair_unless mark v x)) × (set (set list at v) (at + 1) x ≡ sets list at (pair_unless mark v x))
  unfolding pair_unless
  pair_one h = let p : at + 1 ≡ suc at = omega arith in rw (eq-eqb mark 0 h, p) (refl, refl)

-- from one number to the next
module _ (marks table : List ℕ) where
  abbrev unmarked : ℕ → List ℕ
  unmarked v = keep (is_open marks) (range 0 v)

  abbrev given : ℕ → ℕ
  given v = get_or table v 0

  pub paired_start : (list : List ℕ) → Paired table (unmarked 0) list list 0
  unfolding pairs keep range
  paired_start list = record { count = refl; list = refl }

  paired_next : (v : ℕ) → pairs given (unmarked (v + 1)) ≡ pairs given (unmarked v) ++ pair_unless (get_or marks v 0) v (given v)
  unfolding pair_unless pairs
  paired_next v =
      let p : v + 1 ≡ suc v = omega arith in
      rw (p, keep_more (is_open marks) v) (pairs-append given (unmarked v) (cond (is_open marks v) (v ∷ []) []) ∙ ap (λ (l : List ℕ). pairs given (unmarked v) ++ l) (go (is_open marks v)))
    where
      go : (t : Bool) → pairs given (cond t (v ∷ []) []) ≡ cond t (v ∷ (given v ∷ [])) []
      go true = refl
      go false = refl

  module _ {before list : List ℕ} (v : ℕ) {at : ℕ} (p : Paired table (unmarked v) before list at) where
    pub paired_room : at ≤ 2 * v
    paired_room = omega (arith, p.count, keep-length (is_open marks) v, rank_most (is_open marks) v)

    pub paired_long : length list ≡ length before
    paired_long = ap length p.list ∙ length-sets before 0 (pairs given (unmarked v))

    pub paired_step : {after : List ℕ} {r : ℕ} → r ≡ at + length (pair_unless (get_or marks v 0) v (given v)) → after ≡ sets list at (pair_unless (get_or marks v 0) v (given v))
        → Paired table (unmarked (v + 1)) before after r
    paired_step {r = r} c q =
        let new = pair_unless (get_or marks v 0) v (given v) in
        let more = paired_next v in
        let long = length_pairs given (unmarked v) in
        let here : at ≡ 0 + length (pairs given (unmarked v)) = omega (arith, p.count, long) in
        record {
          count = omega (arith, c, p.count, long, length_pairs given (unmarked (v + 1)), ap length more, length-append (pairs given (unmarked v)) new);
          list = q ∙ ap (λ (l : List ℕ). sets l at new) p.list ∙ ap (λ (i : ℕ). sets (sets before 0 (pairs given (unmarked v))) i new) here
              ∙ sym (sets_append before 0 (pairs given (unmarked v)) new) ∙ ap (sets before 0) (sym more);
        }

-- the numbers without a mark, where those of a list have got one
pub open_others : (list zeros marks : List ℕ) (n : ℕ) → n ≤ length zeros → ((k : ℕ) → get_or zeros k 0 ≡ 0) → MarkedAll list zeros marks → keep (is_open marks) (range 0 n) ≡ others n list
unfolding others
open_others list zeros marks n h blank m = ordered_same _ _ (ordered_keep (is_open marks) (ordered_range 0 n)) (ordered_keep (λ v. not (mem v list)) (ordered_range 0 n)) to from
  where
    to : (v : ℕ) → In v (keep (is_open marks) (range 0 n)) → In v (keep (λ v. not (mem v list)) (range 0 n))
    to v i =
        let k = (keep_is (is_open marks) v (range 0 n)).0 i in
        let below : v < n = omega (arith, ((range_is v 0 n).0 k.0).1) in
        (keep_is (λ v. not (mem v list)) v (range 0 n)).1 (k.0, (not_mem v list).1 (λ j. omega (arith, m.named v (omega arith) j, eqb→eq (get_or marks v 0) 0 k.1)))

    from : (v : ℕ) → In v (keep (λ v. not (mem v list)) (range 0 n)) → In v (keep (is_open marks) (range 0 n))
    from v i =
        let k = (keep_is (λ v. not (mem v list)) v (range 0 n)).0 i in
        (keep_is (is_open marks) v (range 0 n)).1 (k.0, true-T (eq-eqb (get_or marks v 0) 0 (m.other v ((not_mem v list).0 k.1) ∙ blank v)))

-- of a plan, these are its vertices
others-vertices : (p : Plan) → others p.vertices p.excluded ≡ vertices (graph p)
unfolding others
others-vertices p = ordered_same _ _ (ordered_keep (λ v. not (mem v p.excluded)) (ordered_range 0 p.vertices)) (ordered_vertices (graph p)) to from
  where
    to : (v : ℕ) → In v (keep (λ v. not (mem v p.excluded)) (range 0 p.vertices)) → In v (vertices (graph p))
    to v i =
        let k = (keep_is (λ v. not (mem v p.excluded)) v (range 0 p.vertices)).0 i in
        (vertices_are (graph p) v).1 ((vertex_is p v).1 (omega (arith, ((range_is v 0 p.vertices).0 k.0).1), (not_mem v p.excluded).0 k.1))

    from : (v : ℕ) → In v (vertices (graph p)) → In v (keep (λ v. not (mem v p.excluded)) (range 0 p.vertices))
    from v i =
        let h = (vertex_is p v).0 ((vertices_are (graph p) v).0 i) in
        (keep_is (λ v. not (mem v p.excluded)) v (range 0 p.vertices)).1 ((range_is v 0 p.vertices).1 (omega arith, omega (arith, h.0)), (not_mem v p.excluded).1 h.1)

-- so the front of a list that is filled from a table of the groups has each vertex and its group
module _ {most : Limits} {p : Plan} (a : Admitted most p) {table list after : List ℕ} {size : ℕ} (s : Paired table (others p.vertices p.excluded) list after size)
    (room : 2 * p.vertices ≤ length list) where
  paired_size : size ≡ 2 * length (vertices (graph p))
  paired_size = s.count ∙ ap (λ (l : List ℕ). 2 * length l) (others-vertices p)

  pub paired_fits : size ≤ length after
  paired_fits = omega (arith, paired_size, admitted_count a, ap length s.list, length-sets list 0 (pairs (λ v. get_or table v 0) (others p.vertices p.excluded)))

  pub paired_front : (before : List ℕ) → table ≡ filled (components (graph p)) before → take size after ≡ group_pairs (graph p)
  unfolding group_pairs
  paired_front before q =
      let read : ℕ → ℕ = λ v. get_or table v 0 in
      let vs = vertices (graph p) in
      let is : after ≡ sets list 0 (pairs read vs) = s.list ∙ ap (λ (l : List ℕ). sets list 0 (pairs read l)) (others-vertices p) in
      let long : length (pairs read vs) ≡ size = length_pairs read vs ∙ sym paired_size in
      ap (take size) (is ∙ sets_filled list (pairs read vs) (omega (arith, paired_size, admitted_count a))) ∙ take_at (pairs read vs) (drop (length (pairs read vs)) list) size long
      ∙ pairs-same read (component_of (graph p)) vs (λ v i. table_at p before q v (vertex_size p ((vertices_are (graph p) v).0 i)))

-- Its lines.

lines-pairs : (ws : List ℕ) (g : Graph) (l : List ℕ) → lines ws 2 (length l) (pairs (component_of g) l) ≡ group_lines ws g l
unfolding lines pairs group_lines
lines-pairs ws g [] = refl
lines-pairs ws g (v ∷ l) = rw (lines-pairs ws g l)

pub write_pairs : (ws : List ℕ) (g : Graph) (space : ℕ) → write_lines ws 2 (group_pairs g) space ≡ write_text (groups_text ws g) space
unfolding group_pairs groups_text
write_pairs ws g space =
    let l = pairs (component_of g) (vertices g) in
    let n : length l / 2 ≡ length (vertices g) = omega (arith, length_pairs (component_of g) (vertices g)) in
    in_columns ws 2 l space (omega arith) (omega arith) ∙ ap (λ (x : List ℕ). write_text x space) (ap (λ (m : ℕ). lines ws 2 m l) n ∙ lines-pairs ws g (vertices g))

-- The line of one number.

pub write_one : (ws : List ℕ) (x space : ℕ) → write_lines ws 1 (x ∷ []) space ≡ write_text (line ws (x ∷ [])) space
unfolding lines
write_one ws x space = in_columns ws 1 (x ∷ []) space (omega arith) (omega arith) ∙ ap (λ (l : List ℕ). write_text l space) (append-nil (line ws (x ∷ [])))
