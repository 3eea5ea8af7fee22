-- The lowest cut by its parts: labels that cancel hide none, and the sets are tried in order.
use mathlib.Core.Path.{◌≡◌, refl, sym, ap, ◌∙◌}
use mathlib.Core.Bool.{Bool, true, false, cond}
use mathlib.Core.Logic.{◌⊎◌, inl, inr}
use mathlib.Core.List.Memᴰ.{cases_cons as in-cons}
use mathlib.Core.List.Memᴰ.{not-nil as not_in}
use mathlib.Core.List.{List, [], ◌∷◌, ◌++◌, Memᴰ as In}
use mathlib.Core.Option.{Option, none, some}
use Prim.Native.Nat.{ℕ, ◌-◌, ◌/◌}
use native.Mathlib.Omega.{arith}
use lib.ListN.{length}
use Rattle.connectivity.specs.Lists.{range, keep}
use Rattle.connectivity.specs.Plan.{Plan, graph, Limits}
use Rattle.connectivity.specs.Graph.{Graph, Edge, is_edge, edges}
use Rattle.connectivity.specs.Cut.{disconnects, singles, pairs_with, pairs, first_of, lowest_cut}
use Rattle.connectivity.proofs.Lists.{range_is, T-dec, T_true, T_false}
use Rattle.connectivity.proofs.Search.{is_edge_lem, edges_are}
use Rattle.connectivity.proofs.Kept.{edge_size_lem}
use Rattle.connectivity.proofs.LowestCut.{singles_in}
use Rattle.graph.specs.Marks.{read}
use Rattle.labels.proofs.CutLabels.{no_loops, skip_one, skip_two}
use Rattle.std.specs.Prelude.{Some}
use Rattle.cuts.specs.Lowest.{cut_by, Shown, ShownBoth, Whole, one_told, first_one, first_two}
use Rattle.cuts.proofs.First.{none_some, first_yes, first_no, first_some, first_later}
use Rattle.cuts.proofs.Likes.{not_one, not_two, by_one, by_two, no_with}

-- no set in a list of which none is first
none_is : (f : List ℕ → Bool) (l : List (List ℕ)) → first_of f l ≡ none → (c : List ℕ) → In c l → f c ≡ false
unfolding first_of
none_is f [] p c i = absurd (not_in i)
none_is f (b ∷ l) p c i = go (f b) refl p (in-cons i) (none_is f l)
  where
    go : (t : Bool) → f b ≡ t → cond t (some b) (first_of f l) ≡ none → (c ≡ b) ⊎ In c l → (first_of f l ≡ none → (c : List ℕ) → In c l → f c ≡ false) → f c ≡ false
    go true q r j h = absurd (none_some (sym r))
    go false q r (inl e) h = rw e q
    go false q r (inr k) h = h r c k

-- Labels that cancel hide no cut.

module _ {most : Limits} {p : Plan} {labels : List ℕ} (w : Whole most p labels) where
  abbrev g : Graph
  g = graph p

  abbrev m : ℕ
  m = length p.ends / 2

  edge_in : {e : ℕ} → Edge g e → In e (edges g)
  edge_in {e} k = (edges_are g e).1 k

  pub shows_one : Shown p labels m
  shows_one = record {
    edges = refl;
    room = w.room;
    one = λ e k d. skip_one g (read labels) w.balanced (no_loops w.admitted) e w.connected (edge_in k) d;
  }

  -- where no edge disconnects alone
  pub shows_both : first_one g m ≡ none → ShownBoth p labels m
  shows_both q = record {
    shown = shows_one;
    two = λ e d b x y. skip_two g (read labels) w.balanced (no_loops w.admitted) e d (single e x) (single d y) (edge_in x) (edge_in y) (λ q. omega (arith, b, q));
  }
    where
      single : (e : ℕ) → Edge g e → disconnects g (e ∷ []) ≡ false
      single e k = sym (by_one g e k) ∙ none_is (cut_by g) (singles (range 0 (m - 0))) q (e ∷ []) (singles_in ((range_is e 0 (m - 0)).1 (omega arith, omega (arith, edge_size_lem p k))))

-- The sets in order: those of the graph's edges, and those of all entries of which one that is no edge is no cut.

first_both : (f h : List ℕ → Bool) (k k' l l' : List (List ℕ)) → first_of f k ≡ first_of h k' → first_of f l ≡ first_of h l' → first_of f (k ++ l) ≡ first_of h (k' ++ l')
first_both f h k k' l l' p q = go (first_of f k) refl
  where
    go : (o : Option (List ℕ)) → first_of f k ≡ o → first_of f (k ++ l) ≡ first_of h (k' ++ l')
    go none z = first_later f k l z ∙ q ∙ sym (first_later h k' l' (sym p ∙ z))
    go (some c) z = first_some f k l z ∙ sym (first_some h k' l' (sym p ∙ z))

module _ (g : Graph) where
  keep_yes : (e : ℕ) (l : List ℕ) → Edge g e → keep (is_edge g) (e ∷ l) ≡ e ∷ keep (is_edge g) l
  unfolding keep
  keep_yes e l k = rw (T_true (is_edge g e) ((is_edge_lem g e).1 k))

  keep_no : (e : ℕ) (l : List ℕ) → (Edge g e → ⊥) → keep (is_edge g) (e ∷ l) ≡ keep (is_edge g) l
  unfolding keep
  keep_no e l n = rw (T_false (is_edge g e) (λ t. n ((is_edge_lem g e).0 t)))

  edge_dec : (e : ℕ) → Dec (Edge g e)
  edge_dec e = elim (T-dec (is_edge g e)) [ yes t ↦ yes ((is_edge_lem g e).0 t) | no n ↦ no (λ k. n ((is_edge_lem g e).1 k)) ]

  -- one set more, with the same answer to both tests
  first_more : (c : List ℕ) (l l' : List (List ℕ)) → cut_by g c ≡ disconnects g c → first_of (disconnects g) l ≡ first_of (cut_by g) l' → first_of (disconnects g) (c ∷ l) ≡ first_of (cut_by g) (c ∷ l')
  unfolding first_of
  first_more c l l' p q = rw (p, q)

  all_singles : (l : List ℕ) → first_of (disconnects g) (singles (keep (is_edge g) l)) ≡ first_of (cut_by g) (singles l)
  unfolding singles keep first_of
  all_singles [] = refl
  all_singles (e ∷ l) = elim (edge_dec e) [
    | yes k ↦ ap (λ (x : List ℕ). first_of (disconnects g) (singles x)) (keep_yes e l k) ∙ first_more (e ∷ []) (singles (keep (is_edge g) l)) (singles l) (by_one g e k) (all_singles l)
    | no n ↦ ap (λ (x : List ℕ). first_of (disconnects g) (singles x)) (keep_no e l n) ∙ all_singles l ∙ sym (first_no (cut_by g) (e ∷ []) (singles l) (not_one g e n))
  ]

  all_with : (e : ℕ) (l : List ℕ) → Edge g e → first_of (disconnects g) (pairs_with e (keep (is_edge g) l)) ≡ first_of (cut_by g) (pairs_with e l)
  unfolding pairs_with keep first_of
  all_with e [] h = refl
  all_with e (d ∷ l) h = elim (edge_dec d) [
    | yes k ↦ ap (λ (x : List ℕ). first_of (disconnects g) (pairs_with e x)) (keep_yes d l k) ∙ first_more (e ∷ (d ∷ [])) (pairs_with e (keep (is_edge g) l)) (pairs_with e l) (by_two g e d h k) (all_with e l h)
    | no n ↦ ap (λ (x : List ℕ). first_of (disconnects g) (pairs_with e x)) (keep_no d l n) ∙ all_with e l h ∙ sym (first_no (cut_by g) (e ∷ (d ∷ [])) (pairs_with e l) (not_two g e d (λ x y. n y)))
  ]

  all_pairs : (l : List ℕ) → first_of (disconnects g) (pairs (keep (is_edge g) l)) ≡ first_of (cut_by g) (pairs l)
  unfolding pairs keep first_of
  all_pairs [] = refl
  all_pairs (e ∷ l) = elim (edge_dec e) [
    | yes k ↦ ap (λ (x : List ℕ). first_of (disconnects g) (pairs x)) (keep_yes e l k)
        ∙ first_both (disconnects g) (cut_by g) (pairs_with e (keep (is_edge g) l)) (pairs_with e l) (pairs (keep (is_edge g) l)) (pairs l) (all_with e l k) (all_pairs l)
    | no n ↦ ap (λ (x : List ℕ). first_of (disconnects g) (pairs x)) (keep_no e l n) ∙ all_pairs l ∙ sym (first_later (cut_by g) (pairs_with e l) (pairs l) (no_with g e l n))
  ]

module _ (p : Plan) (m : ℕ) (q : m ≡ length p.ends / 2) where
  abbrev kept : Graph
  kept = graph p

  edges-range : edges kept ≡ keep (is_edge kept) (range 0 (m - 0))
  unfolding edges graph
  edges-range = let r : length p.ends / 2 ≡ m - 0 = omega (arith, q) in ap (λ (k : ℕ). keep (is_edge kept) (range 0 k)) r

  pub lowest_parted : disconnects kept [] ≡ true → lowest_cut kept ≡ some []
  unfolding lowest_cut
  lowest_parted d = first_yes (disconnects kept) [] _ d

  module _ (d : disconnects kept [] ≡ false) where
    sets : lowest_cut kept ≡ first_of (cut_by kept) (singles (range 0 (m - 0)) ++ pairs (range 0 (m - 0)))
    unfolding lowest_cut
    sets = first_no (disconnects kept) [] _ d ∙ ap (λ (l : List ℕ). first_of (disconnects kept) (singles l ++ pairs l)) edges-range
        ∙ first_both (disconnects kept) (cut_by kept) (singles (keep (is_edge kept) (range 0 (m - 0)))) (singles (range 0 (m - 0))) (pairs (keep (is_edge kept) (range 0 (m - 0)))) (pairs (range 0 (m - 0)))
        (all_singles kept (range 0 (m - 0))) (all_pairs kept (range 0 (m - 0)))

    pub lowest_one : (e : ℕ) → first_one kept m ≡ one_told (Some e) → lowest_cut kept ≡ some (e ∷ [])
    lowest_one e z = sets ∙ first_some (cut_by kept) (singles (range 0 (m - 0))) (pairs (range 0 (m - 0))) z

    pub lowest_two : first_one kept m ≡ none → lowest_cut kept ≡ first_two kept m
    lowest_two z = sets ∙ first_later (cut_by kept) (singles (range 0 (m - 0))) (pairs (range 0 (m - 0))) z
