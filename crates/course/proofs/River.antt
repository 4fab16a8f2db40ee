-- What a sheet that its own tests pass gives a loading, and tests 10 to 12 of a segment by itself.
use mathlib.Core.Bool.{Bool, true, false, cond}
use mathlib.Core.List.{List}
use mathlib.Core.Path.{◌≡◌, ap, ◌∙◌}
use Prim.Native.Nat.{ℕ, ◌+◌, ◌^◌, ◌<◌, ◌≤◌}
use native.Mathlib.Omega.{arith}
use lib.Dec.{leb}
use Rattle.model.specs.Sheet.{edition, sections, section_end, sections_end, count_at, row_count_at, gauge_count_at, flow_row_count_at}
use Rattle.model.specs.Flow.{Course, reach_at}
use Rattle.model.specs.HalfStep.{Site, site_at, Numbers, numbers}
use Rattle.model.specs.Load.{flow_fault, loaded}
use Rattle.terms.specs.Says.{reach_says}
use Rattle.halfstep.specs.declared.Site as Held
use Rattle.halfstep.specs.Site.{site_says, Passes, StandFor}
use Rattle.sheet.proofs.Passed.{passed}
use Rattle.course.specs.Segments.{site_fault, Clear, ClearSite, Read, IsSegment}

module _ {course : Course} {i : ℕ} {site : Held.Site} (s : IsSegment course i site) where
  -- a test of the segment
  pub site-fault : (number : ℕ) → site_fault number (site_says site) ≡ site_fault number (site_at course i)
  site-fault number = ap (site_fault number) s.same

  -- tests of lower numbers pass it
  pub clear-site : {number n : ℕ} → 10 ≤ number → Clear number n course → i < n → ClearSite number (site_says site)
  clear-site low clear h = record {
    low = low;
    fields = s.fields;
    each = λ k l m. site-fault k ∙ clear.each k l m i h;
  }

  -- the numbers that stand for the segment's are those, where test 12 passes
  pub numbers-are : {n : ℕ} {given : Numbers} → Clear 13 n course → i < n → StandFor given (numbers (site_says site)) → given ≡ numbers (site_at course i)
  unfolding site_fault
  numbers-are clear h stand = stand.same (site-fault 12 ∙ clear.each 12 (omega arith) (omega arith) i h) ∙ ap numbers s.same

  -- its reach
  pub own_is : reach_says site.own ≡ reach_at course i
  unfolding site_at
  own_is = ap (λ (x : Site). x.own) s.same

-- test 10 passes
pub flow-site : {number : ℕ} {site : Site} → ClearSite number site → 10 < number → flow_fault site ≡ false
unfolding site_fault
flow-site c h = c.each 10 (omega arith) h

-- tests 10 and 11 pass
pub passes-site : {number : ℕ} {site : Site} → ClearSite number site → 11 < number → Passes site
unfolding site_fault
passes-site c h = record {
  fields = c.fields;
  flow = c.each 10 (omega arith) (omega arith);
  face = c.each 11 (omega arith) (omega arith);
}

pub ruleset clear = (flow-site, passes-site)

-- where the rows, the gauges and the flow rows begin fits 32 bits
module _ {sheet : List ℕ} {n : ℕ} (r : Read sheet n) where
  pub rows_fit : row_count_at sheet + 4 < 2 ^ 13
  unfolding sections section_end sections_end count_at
  rows_fit = omega (arith, (passed sheet r.passed).reach_counts.high)

  pub gauges-fit : gauge_count_at sheet + 4 < 2 ^ 14
  unfolding sections section_end sections_end count_at
  gauges-fit = omega (arith, rows_fit, (passed sheet r.passed).row_counts.high)

  pub flow-rows-fit : (loaded sheet).flow_rows_at < 2 ^ 15
  unfolding sections section_end sections_end count_at loaded
  flow-rows-fit = fit (leb 2 (edition sheet))
    where
      fit : (t : Bool) → cond t (flow_row_count_at sheet + 4) 0 < 2 ^ 15
      fit true = omega (arith, gauges-fit, (passed sheet r.passed).gauge_counts.high)
      fit false = omega arith
