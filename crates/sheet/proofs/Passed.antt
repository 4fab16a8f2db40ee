-- What is known of a sheet that passed tests 1 to 9, 16 and 19.
use mathlib.Core.Path.{◌≡◌}
use mathlib.Core.Bool.{Bool, true, false, cond}
use mathlib.Core.List.{List, [], ◌∷◌}
use Prim.Native.Nat.{ℕ, ◌<◌, ◌≤◌, zero-le}
use native.Mathlib.Nat.{le_antisymm}
use native.Mathlib.Omega.{arith}
use borrow.Author.Tests.{ltb-false}
use lib.Dec.{leb, lit<}
use lib.ListN.{length, get_or}
use Rattle.model.specs.Ranges.{◌to◌, since, any_outside, header_ranges, reach_ranges, Section, reach_section, row_section, gauge_section, flow_section}
use Rattle.model.specs.Ranges.{concentration, flows, areas, dispersions, rates, most_kd, most_steps, most_segments}
use Rattle.model.specs.Sheet as Sheet
use Rattle.model.specs.Sheet.{Reach, edition, sections, field, header, reach_count_at, reach_count, row_count, gauge_count, flow_row_count, count_at, row_count_at, gauge_count_at, flow_row_count_at, sections_end, sheet_end, reach_fields}
use Rattle.model.specs.Sheet.{reach_of, reach_on, reaches, segment_count, band_sections, bands_on}
use Rattle.model.specs.Bands.{bands_fault}
use Rattle.model.specs.Sheet.{steps_m, row_starts, row_concentrations, gauges, flow_row_starts, flow_row_tops}
use Rattle.model.specs.Refusals.{passes, reach, row, first}
use Rattle.model.specs.Load.{walk, row_fault, gauge_fault, flow_row_fault, sheet_tests}
use Rattle.model.proofs.Refusals.{AllPass, all_pass, test-clear, each-clear}
use Rattle.sheet.specs.Walks.{Walked}
use Rattle.sheet.proofs.InRange.{Within, all-within}
use Rattle.sheet.proofs.Walking.{walk-pass, walk_ends}
use Rattle.sheet.proofs.Segments.{segments-first}
use Rattle.sheet.proofs.Entries.{RowRight, row-right, GaugeRight, gauge-right, FlowRowRight, flow-row-right}

-- a reach whose fields are all in range
pub record ReachWithin (r : Reach) : Type 0 where
  pub segments : Within (1 to most_segments) r.segments
  pub dispersion : Within dispersions r.dispersion
  pub area : Within areas r.area
  pub area2 : Within areas r.area2
  pub alpha : Within rates r.alpha
  pub qin : Within flows r.qin
  pub qout : Within flows r.qout
  pub cl : Within concentration r.cl
  pub lambda : Within rates r.lambda
  pub lambda2 : Within rates r.lambda2
  pub lamhat : Within rates r.lamhat
  pub lamhat2 : Within rates r.lamhat2
  pub rho : Within (0 to 1000000) r.rho
  pub kd : Within (0 to most_kd) r.kd
  pub cb : Within concentration r.cb
  pub start : Within concentration r.start

reach-within : (sheet : List ℕ) (i : ℕ) → any_outside (reach_ranges (edition sheet)) (reach_fields sheet i) ≡ false → ReachWithin (reach_on sheet i)
unfolding reach_fields reach_on reach_of
reach-within sheet i e =
    let field : (k : ℕ) → k < 16 → Within (get_or (reach_ranges (edition sheet)) k (0 to 0)) (get_or (reach_fields sheet i) k 0) =
    λ k h. all-within (0 to 0) (reach_ranges (edition sheet)) (reach_fields sheet i) k e h h in
    record {
      segments = field 0 (lit< tt);
      dispersion = field 1 (lit< tt);
      area = field 2 (lit< tt);
      area2 = field 3 (lit< tt);
      alpha = field 4 (lit< tt);
      qin = field 5 (lit< tt);
      qout = field 6 (lit< tt);
      cl = field 7 (lit< tt);
      lambda = field 8 (lit< tt);
      lambda2 = field 9 (lit< tt);
      lamhat = field 10 (lit< tt);
      lamhat2 = field 11 (lit< tt);
      rho = field 12 (lit< tt);
      kd = field 13 (lit< tt);
      cb = field 14 (lit< tt);
      start = field 15 (lit< tt);
    }

-- a sheet that passed
pub record Passed (sheet : List ℕ) : Type 0 where
  pub reach_counts : Within (reach_section (edition sheet)).counts (reach_count sheet)
  pub row_counts : Within row_section.counts (row_count sheet)
  pub gauge_counts : Within gauge_section.counts (gauge_count sheet)
  pub flow_row_counts : flow_row_count sheet ≤ flow_section.counts.high
  pub walked : Walked sheet
  pub ends : length sheet ≡ sheet_end sheet
  pub dt : Within (1 to 3600) (Sheet.dt sheet)
  pub dx : Within (10 to 10000) (Sheet.dx sheet)
  pub steps : Within (1 to most_steps) (steps_m sheet)
  pub interval : Within (1 to steps_m sheet) (Sheet.interval sheet)
  pub top_flow : Within flows (Sheet.top_flow sheet)
  pub reach : (i : ℕ) → i < reach_count sheet → ReachWithin (reach_on sheet i)
  pub segments : Within (1 to most_segments) (segment_count sheet)
  pub row : (j : ℕ) → j < row_count sheet → RowRight (steps_m sheet) (row_starts sheet) (row_concentrations sheet) j
  pub gauge : (j : ℕ) → j < gauge_count sheet → GaugeRight (segment_count sheet) (gauges sheet) j
  pub flow_row : (j : ℕ) → j < flow_row_count sheet → FlowRowRight (steps_m sheet) (flow_row_starts sheet) (flow_row_tops sheet) j
  pub bands : (i : ℕ) → i < reach_count sheet → bands_fault (bands_on sheet i) ≡ false

header-field : (sheet : List ℕ) → any_outside (header_ranges (steps_m sheet)) (header sheet) ≡ false → (k : ℕ) → k < 5 →
    Within (get_or (header_ranges (steps_m sheet)) k (0 to 0)) (get_or (header sheet) k 0)
header-field sheet e k h = all-within (0 to 0) (header_ranges (steps_m sheet)) (header sheet) k e h h

-- a river has a segment, since its first reach has
some-segment : (sheet : List ℕ) → 0 < reach_count sheet → ReachWithin (reach_on sheet 0) → 1 ≤ segment_count sheet
unfolding segment_count reaches
some-segment sheet h r = omega (arith, segments-first (reach_on sheet) (reach_count sheet) h, r.segments.low)

-- the count of a section that an edition may lack
flow-count : (sheet : List ℕ) (at : ℕ) (has : Bool) (more : List Section) → walk sheet at (cond has (flow_section ∷ more) []) ≡ passes →
    cond has (field sheet at) 0 ≤ flow_section.counts.high
flow-count sheet at true more e = (walk-pass sheet at flow_section more e).0.counts.high
flow-count sheet at false more e = zero-le

pub passed : (sheet : List ℕ) → first (sheet_tests sheet) ≡ passes → Passed sheet
unfolding sheet_tests sections sections_end count_at sheet_end flow_row_count
passed sheet e =
    let t : AllPass (sheet_tests sheet) = all_pass (sheet_tests sheet) e in
    let more = since 2 (edition sheet) (flow_section ∷ band_sections sheet) [] in
    let rs = walk-pass sheet reach_count_at (reach_section (edition sheet)) (row_section ∷ gauge_section ∷ more) t.1.0 in
    let bs = walk-pass sheet (row_count_at sheet) row_section (gauge_section ∷ more) rs.1 in
    let gs = walk-pass sheet (gauge_count_at sheet) gauge_section more bs.1 in
    let last : length sheet ≤ sheet_end sheet = ltb-false _ _ (test-clear 4 _ t.1.1.0) in
    let head = header-field sheet (test-clear 5 _ t.1.1.1.0) in
    let inside : (i : ℕ) → i < reach_count sheet → ReachWithin (reach_on sheet i) =
    λ i h. reach-within sheet i (each-clear 6 reach _ (λ i. any_outside (reach_ranges (edition sheet)) (reach_fields sheet i)) t.1.1.1.1.0 i h) in
    let rows = row_fault (steps_m sheet) (row_starts sheet) (row_concentrations sheet) in
    let flow_rows = flow_row_fault (steps_m sheet) (flow_row_starts sheet) (flow_row_tops sheet) in
    record {
      reach_counts = rs.0.counts;
      row_counts = bs.0.counts;
      gauge_counts = gs.0.counts;
      flow_row_counts = flow-count sheet (flow_row_count_at sheet) (leb 2 (edition sheet)) (band_sections sheet) gs.1;
      walked = t.1.0;
      ends = le_antisymm last (walk_ends sheet (flow_row_count_at sheet) more gs.1 gs.0.ends);
      dt = head 0 (lit< tt);
      dx = head 1 (lit< tt);
      steps = head 2 (lit< tt);
      interval = head 3 (lit< tt);
      top_flow = head 4 (lit< tt);
      reach = inside;
      segments =
          record {
            low = some-segment sheet rs.0.counts.low (inside 0 rs.0.counts.low);
            high = ltb-false _ _ (test-clear 7 _ t.1.1.1.1.1.0);
          };
      row = λ j h. row-right _ _ _ j (each-clear 8 row _ rows t.1.1.1.1.1.1.0 j h);
      gauge = λ j h. gauge-right _ _ j (each-clear 9 row _ (gauge_fault (segment_count sheet) (gauges sheet)) t.1.1.1.1.1.1.1.0 j h);
      flow_row = λ j h. flow-row-right _ _ _ j (each-clear 16 row _ flow_rows t.1.1.1.1.1.1.1.1.0 j h);
      bands = each-clear 19 reach _ (λ i. bands_fault (bands_on sheet i)) t.1.1.1.1.1.1.1.1.1.0;
    }
