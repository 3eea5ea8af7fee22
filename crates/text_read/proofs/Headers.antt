-- The header of a plan text, by the columns of the first line; and what its counts and place say of the lines behind it.
use mathlib.Core.Path.{◌≡◌, sym, ◌∙◌}
use mathlib.Core.Bool.{true, false, ◌&&◌}
use mathlib.Core.List.{List}
use Prim.Native.Nat.{ℕ, ◌≤◌}
use native.Mathlib.Omega.{arith}
use lib.Dec.{leb}
use Rattle.connectivity.specs.Plan.{Limits}
use Rattle.text.specs.Column.{line_size, line_fits, numbers}
use Rattle.text.specs.Plan.{header_first, header_third, header_fits, spelled}
use Rattle.text.proofs.Laws.{line_long}
use Rattle.text.proofs.Reading.{short_header, short_third, short_lines, long_header, long_third, long_lines, third_most, Met}
use Rattle.text_read.specs.declared.plan.Header.{Header}
use Rattle.text_read.specs.declared.line.Line.{Line}
use Rattle.text_read.specs.Line.{LineOf}
use Rattle.text_read.specs.Header.{Headed, ends_at, excluded_at, Fitting}

module _ (ws : List ℕ) (most : ℕ) (text : List ℕ) where
  pub two_read : {l : Line} → LineOf ws most 2 text l → Headed ws most text (record { vertices = l.first; edges = l.second; excluded = 0; next = line_size ws 2 })
  unfolding numbers
  two_read r = record {
    form = short_header ws most text r.fits;
    vertices = r.first;
    edges = r.second;
    excluded = sym (short_third ws most text r.fits);
    inside = line_long ws most 2 text r.fits;
    behind = sym (short_lines ws most text r.fits);
  }

  module _ (n : line_fits ws most 2 text ≡ false) where
    pub three_none : line_fits ws most 3 text ≡ false → header_fits ws most text ≡ false
    three_none p = long_header ws most text n ∙ rw p

    module _ {l : Line} (r : LineOf ws most 3 text l) where
      third : l.third ≡ header_third ws most text
      unfolding numbers
      third = r.third ∙ sym (long_third ws most text n)

      first : l.first ≡ header_first ws text
      unfolding numbers
      first = r.first

      pub three_form : header_fits ws most text ≡ (leb 1 l.third && leb l.third l.first)
      three_form = long_header ws most text n ∙ rw (r.fits, sym third, sym first)

      pub three_read : (leb 1 l.third && leb l.third l.first) ≡ true → Headed ws most text (record { vertices = l.first; edges = l.second; excluded = l.third; next = line_size ws 3 })
      unfolding numbers
      three_read p = record {
        form = three_form ∙ p;
        vertices = first;
        edges = r.second;
        excluded = third;
        inside = line_long ws most 3 text r.fits;
        behind = sym (long_lines ws most text n);
      }

-- the lines behind the header list the plan
module _ {ws : List ℕ} {most : ℕ} {text : List ℕ} {h : Header} (d : Headed ws most text h) where
  pub ends_listed : ends_at ws text h.next h.edges ≡ (spelled ws most text).ends
  ends_listed = rw (d.edges, d.behind)

  pub excluded_listed : excluded_at ws text h.next h.edges h.excluded ≡ (spelled ws most text).excluded
  excluded_listed = rw (d.edges, d.excluded, d.behind)

  pub few : h.excluded ≤ h.vertices
  few = omega (arith, d.vertices, d.excluded, third_most ws most text d.form)

  pub met_fitting : (limits : Limits) (space : ℕ) → Met ws most limits text space → Fitting ws most limits text h.next h.vertices h.edges h.excluded
  met_fitting limits space m = record {
    inside = d.inside;
    short = omega (arith, d.edges, m.short);
    few = few;
    begin = rw (d.edges, d.behind) m.edges;
    fit = rw (d.edges, d.excluded, d.behind) m.excluded;
  }
