-- Any lines can be put with no write failing: `Listed` holds of them, and its law gives the document's listing.
use mathlib.Core.Path.{◌≡◌, refl, ◌∙◌}
use mathlib.Core.Bool.{Bool, true, false, cond}
use mathlib.Core.List.{List, [], ◌∷◌, ◌++◌}
use Prim.Native.Nat.{ℕ, ◌+◌, ◌<◌, ◌≤◌, zero-le}
use native.Mathlib.Omega.{arith}
use lib.Dec.{leb, lit≤}
use borrow.Author.Tests.{leb-true, leb-false}
use lib.ListN.{length}
use lib.Seq.{sets, length-sets}
use Rattle.std.specs.Borrow.{Bor, MutBor}
use Rattle.std.specs.declared.rt.LibcRuntime.{LibcRuntime}
use Rattle.lists.specs.Lists.{lowest, lowest_from, not_rising}
use Rattle.rounding.specs.Nearest.{nearest}
use Rattle.rounding.specs.Floor.{floor_div}
use Rattle.model.specs.Ranges.{outside, any_outside}
use Rattle.model.specs.Sheet.{sections, edition, starts_with, field, header_field, section_end, sections_end, count_at, sheet_end, flow_row_count, record_field, reach_fields, reach_of, reach_on, reaches, row_starts, row_concentrations, gauges, total_segments, segment_count, along_river, banded_reaches, band_count, bands_on}
use Rattle.model.specs.Flow.{top_of, last_begun, flow_in_force, course_of, reach_at, own_gain, gain, flow, bands_at, flow_at}
use Rattle.model.specs.Bands.{hydraulics_at, bands_fault}
use Rattle.model.specs.HalfStep.{site_at, fractions, numbers, loaded_segment, hydraulics_of}
use Rattle.model.specs.Sweep.{P, N, F, R, row_of, new_storage, new_sediment, new_figures, downward, stepped}
use Rattle.model.specs.State.{figures_at, write_figures}
use Rattle.model.specs.Load.{test_flows, walk, starts_late, row_fault, gauge_fault, flow_fault, face_fault, sum_fault, sheet_tests, course_tests}
use Rattle.model.specs.Upstream.{upstream_at}
use Rattle.model.specs.OwnRiver.{rows_upstream, own_step, ahead, own_start}
use Rattle.model.specs.Bench.{bytes, all_bytes, listed}
use Rattle.output.specs.Text.{places, decimal, ended, heading, line, done}
use Rattle.output.specs.Listing.{gauge_line, step_lines, lines_at, lines_ahead, listing, printed_to, printed, text}
use Rattle.output.specs.Outcomes.{bytes_due, Put, Room, longest, Puts, none, more, Listed}
use Rattle.output.specs.Bench.{documented}
use Rattle.output.specs.declared.Writer.{Writer}
use Rattle.output.proofs.Putting.{put-line, room_fits}
use Rattle.output.proofs.Lines as Lines
use Rattle.output.proofs.Listing.{listing-holds}

-- no line is longer than `longest`
abbrev Short : List (List ℕ) → Type 0
Short [] = Unit {0}
Short (x ∷ lines) = (length x ≤ longest) × Short lines

-- so many bytes of this buffer used, and no write failed
abbrev pub well : Bor LibcRuntime → MutBor (List ℕ) → (used : ℕ) → Writer
well rt buffer used = record { rt = rt; buffer = buffer; output = record { used = used; failed = false } }

-- lines put, and no write failed
pub record Made (lines : List (List ℕ)) (o : Writer) : Type 0 where
  pub written : List ℕ
  pub used : ℕ
  pub later : MutBor (List ℕ)
  pub puts : Puts lines written o (well o.rt later used)

module _ (rt : Bor LibcRuntime) where
  -- room for a line, by a write that did not fail
  roomy : (used : ℕ) (b : MutBor (List ℕ)) → used ≤ length b.now → Room (well rt b used) (well rt b (cond (leb (used + longest) (length b.now)) used 0))
  roomy used b w = cases (leb (used + longest) (length b.now)) refl
    where
      cases : (fits : Bool) → leb (used + longest) (length b.now) ≡ fits → Room (well rt b used) (well rt b (cond fits used 0))
      cases true e = let h : used + longest ≤ length b.now = leb-true _ _ e in record { kept = λ k. refl; flushed = λ k. absurd (omega arith) }
      cases false e =
          let h : length b.now < used + longest = leb-false _ _ e in
          record { kept = λ k. absurd (omega arith); flushed = λ k. record { used = refl; failed = λ t. t; lost = λ t. absurd (omega arith); buffer = refl } }

  -- each line finds room
  made : (lines : List (List ℕ)) → Short lines → (used : ℕ) (b : MutBor (List ℕ)) → used ≤ length b.now → longest ≤ length b.now → Made lines (well rt b used)
  made [] short used b w l = record { written = []; used = used; later = b; puts = none }
  made (x ∷ lines) short used b w l =
      let from = cond (leb (used + longest) (length b.now)) used 0 in
      let room = roomy used b w in
      let fits : from + longest ≤ length b.now = room_fits room l in
      let later = record b { now = sets b.now from x } in
      let long : length later.now ≡ length b.now = length-sets b.now from x in
      let h : length x ≤ longest = short.0 in
      let put : Put x (well rt b from) (well rt later (from + length x)) = record { used = omega arith; failed = refl; bytes = refl; reference = refl } in
      let rest = made lines short.1 (from + length x) later (omega arith) (omega arith) in
      record { written = _; used = rest.used; later = rest.later; puts = more {r = well rt rest.later rest.used} (put-line h room put) rest.puts }

-- The document's listing, put into any buffer that can hold a line.
module _ (rt : Bor LibcRuntime) (b : MutBor (List ℕ)) (l : longest ≤ length b.now) where
  pub put_whole : Made (printed listed) (well rt b 0)
  unfolding lowest_from lowest not_rising nearest floor_div outside any_outside starts_with field header_field section_end sections_end count_at sheet_end record_field reach_fields reach_of reach_on reaches row_starts row_concentrations gauges total_segments segment_count along_river banded_reaches band_count bands_on bands_at flow_at hydraulics_of hydraulics_at bands_fault course_of reach_at own_gain gain flow site_at fractions numbers loaded_segment P N F R row_of new_storage new_sediment new_figures downward stepped figures_at write_figures walk starts_late row_fault gauge_fault flow_fault face_fault sum_fault sheet_tests course_tests top_of sections edition flow_row_count test_flows last_begun flow_in_force upstream_at bytes all_bytes rows_upstream own_step ahead own_start gauge_line step_lines lines_at lines_ahead listing printed_to printed text line ended decimal places heading done listed documented
  put_whole = made rt (printed listed) (lit≤ tt, (lit≤ tt, (lit≤ tt, (lit≤ tt, tt)))) 0 b zero-le l

  abbrev pub last : Writer
  last = well rt put_whole.later put_whole.used

  pub put-listed : Listed (printed listed) b last
  put-listed = Lines.listed (record { used = refl; failed = refl; buffer_is = refl }) put_whole.puts

  pub documented-whole : put-listed.written ++ bytes_due last ≡ documented
  documented-whole = put-listed.text_is l refl ∙ listing-holds
