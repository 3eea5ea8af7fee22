-- `step_number` meets its contract: 13 of the first three steps, 14 and 15 of a later one.
use mathlib.Core.Bool.{true, false}
use Rattle.verify_firm.specs.Marks.{FitsEar}
use Rattle.verify_firm.proofs.Ending.{whole_below, told_opens, told_parallels, told_ear, told_links, told_reads}
use Rattle.verify_firm.proofs.state.step_number.Goals as goal

pub returns-then-opens : goal.returns-then-opens
returns-then-opens c w = told_opens w c.if-steps-eq0.true true (rw c.if-opens.true at c.opens.ensures)

pub returns-then-steps-eq0 : goal.returns-then-steps-eq0
returns-then-steps-eq0 c w = told_opens w c.if-steps-eq0.true false (rw c.if-opens.false at c.opens.ensures)

pub returns-then-parallels : goal.returns-then-parallels
returns-then-parallels c w = told_parallels w c.if-steps-eq0.false c.if-steps-lt3.true true (rw c.if-parallels.true at c.parallels.ensures)

pub returns-then-steps-lt3 : goal.returns-then-steps-lt3
returns-then-steps-lt3 c w = told_parallels w c.if-steps-eq0.false c.if-steps-lt3.true false (rw c.if-parallels.false at c.parallels.ensures)

pub fits_ear-requires : goal.fits_ear-requires
fits_ear-requires c = whole_below c.requires

pub returns-then-fits_links : goal.returns-then-fits_links
returns-then-fits_links c w =
    let ear : FitsEar c.args.degree.now c.args.run = rw c.if-fits_ear.true at c.fits_ear.ensures in
    told_links w c.if-steps-lt3.false (ear) true (rw c.if-fits_links.true at c.fits_links.ensures)

pub fits_links-requires : goal.fits_links-requires
fits_links-requires c =
    let ear : FitsEar c.args.degree.now c.args.run = rw c.if-fits_ear.true at c.fits_ear.ensures in
    told_reads c.requires c.if-steps-lt3.false (ear)

pub returns-then-fits_ear : goal.returns-then-fits_ear
returns-then-fits_ear c w =
    let ear : FitsEar c.args.degree.now c.args.run = rw c.if-fits_ear.true at c.fits_ear.ensures in
    told_links w c.if-steps-lt3.false (ear) false (rw c.if-fits_links.false at c.fits_links.ensures)

pub returns : goal.returns
returns c w = told_ear w c.if-steps-lt3.false (rw c.if-fits_ear.false at c.fits_ear.ensures)
