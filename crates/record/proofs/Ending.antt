-- Two vertices become branches, one after the other.
use Rattle.std.proofs.Common.{◌≡◌, ℕ, ◌≤◌, List, length, arith}
use Rattle.connectivity.specs.Plan.{Plan, plan, graph, Limits}
use Rattle.connectivity.specs.Graph.{Graph}
use Rattle.tree.specs.Tree.{Pointers, Tree}
use Rattle.tree.specs.Filed.{Belows}
use Rattle.tree.specs.Links.{Shelved}
use Rattle.tree.proofs.Shelving.{marked_shelved, marked_on, marked_off, marked_branch, marked_belows}
use Rattle.graph.specs.Marks.{read}
use Rattle.numbers.specs.Standing.{tree_of}
use Rattle.record.specs.Linking.{top_of, bottom_of, Filing, Splitting, Parted, Ending, BothParted}

-- a vertex has become a branch
pub filing_parted : {most : Limits} {p : Plan} {root : ℕ} {first : List ℕ} {rank : ℕ → ℕ} {below places tips : List ℕ} (places' tips' : List ℕ) {v next next' : ℕ}
    → Filing most p root first rank below places tips next → 1 ≤ read places v
    → Parted (graph p) (tree_of p root first rank) v next (read places) (read places') (top_of tips') (bottom_of tips') next'
    → length places' ≡ length places → length tips' ≡ length tips
    → Filing most p root first rank below places' tips' next'
filing_parted places' tips' f h q a b = record {
  rooted = f.rooted;
  shelved = marked_shelved f.rooted.tree f.shelved h q.marked;
  belows = marked_belows f.rooted.tree f.shelved h q.marked f.belows;
  links = q.links;
  roomy = record {
    below_long = f.roomy.below_long;
    places_long = omega (arith, a, f.roomy.places_long);
    tips_long = omega (arith, b, f.roomy.tips_long);
  };
}

-- both
module _ {g : Graph} {t : Pointers} {v w next next' : ℕ} {place place' top' bottom' : ℕ → ℕ} (tree : Tree g t) (f : Shelved g t place) (hv : 1 ≤ place v) (hw : 1 ≤ place w)
    (b : BothParted g t v w next place place' top' bottom' next') where
  middle_shelved : Shelved g t b.middle
  middle_shelved = marked_shelved tree f hv b.marked_one

  middle_on : {y : ℕ} → 1 ≤ place y → 1 ≤ b.middle y
  middle_on h = marked_on tree f hv b.marked_one h

  pub both_shelved : Shelved g t place'
  both_shelved = marked_shelved tree middle_shelved (middle_on hw) b.marked_two

  pub both_on : {y : ℕ} → 1 ≤ place y → 1 ≤ place' y
  both_on h = marked_on tree middle_shelved (middle_on hw) b.marked_two (middle_on h)

  pub both_off : {y : ℕ} → 1 ≤ place' y → 1 ≤ place y
  both_off h = marked_off tree f hv b.marked_one (marked_off tree middle_shelved (middle_on hw) b.marked_two h)

  pub both_branch : place' w ≡ 1
  both_branch = marked_branch tree middle_shelved (middle_on hw) b.marked_two

  pub both_belows : {below : ℕ → ℕ} → Belows g t (λ y. 1 ≤ place y) place below → Belows g t (λ y. 1 ≤ place' y) place' below
  both_belows h = marked_belows tree middle_shelved (middle_on hw) b.marked_two (marked_belows tree f hv b.marked_one h)

pub filing_both : {most : Limits} {p : Plan} {root : ℕ} {first : List ℕ} {rank : ℕ → ℕ} {below places tips : List ℕ} (places' tips' : List ℕ) {v w next next' : ℕ}
    → Filing most p root first rank below places tips next → 1 ≤ read places v → 1 ≤ read places w
    → BothParted (graph p) (tree_of p root first rank) v w next (read places) (read places') (top_of tips') (bottom_of tips') next'
    → length places' ≡ length places → length tips' ≡ length tips
    → Filing most p root first rank below places' tips' next'
filing_both places' tips' f hv hw b z q = record {
  rooted = f.rooted;
  shelved = both_shelved f.rooted.tree f.shelved hv hw b;
  belows = both_belows f.rooted.tree f.shelved hv hw b f.belows;
  links = b.links;
  roomy = record {
    below_long = f.roomy.below_long;
    places_long = omega (arith, z, f.roomy.places_long);
    tips_long = omega (arith, q, f.roomy.tips_long);
  };
}

-- from one to the other
module _ {most : Limits} {ends first below : List ℕ} {v w next : ℕ} {places tips : List ℕ} (c : Ending most ends first below v w next places tips) where
  abbrev g : Graph
  g = graph (plan c.splitting.n ends c.splitting.excluded)

  abbrev t : Pointers
  t = tree_of (plan c.splitting.n ends c.splitting.excluded) c.splitting.root first c.splitting.rank

  module _ (places₁ tips₁ : List ℕ) {next₁ : ℕ} (one : Parted g t v next (read places) (read places₁) (top_of tips₁) (bottom_of tips₁) next₁)
      (same : (length places₁ ≡ length places) × (length tips₁ ≡ length tips)) where
    pub filing_one : Filing most (plan c.splitting.n ends c.splitting.excluded) c.splitting.root first c.splitting.rank below places₁ tips₁ next₁
    filing_one = filing_parted places₁ tips₁ c.splitting.filing c.splitting.built one same.0 same.1

    pub still_built : 1 ≤ read places₁ w
    still_built = marked_on c.splitting.filing.rooted.tree c.splitting.filing.shelved c.splitting.built one.marked c.built

    abbrev pub splitting_two : Splitting most ends first below w next₁ places₁ tips₁
    splitting_two = record {
      n = c.splitting.n;
      excluded = c.splitting.excluded;
      root = c.splitting.root;
      rank = c.splitting.rank;
      filing = filing_one;
      vertex = c.vertex;
      built = still_built;
    }

    pub both_parted : {place' top' bottom' : ℕ → ℕ} {next' : ℕ} → Parted g t w next₁ (read places₁) place' top' bottom' next' → next ≤ next₁ → next₁ ≤ next'
        → BothParted g t v w next (read places) place' top' bottom' next'
    both_parted two a b = record {
      middle = read places₁;
      marked_one = one.marked;
      marked_two = two.marked;
      links = two.links;
      more = omega (arith, a, b);
      gone = λ m l h none. two.gone m l (omega (arith, h, a)) (one.gone m l h none);
    }
