-- A loop that writes the fourteen lists segment by segment.
use mathlib.Core.List.{List, map}
use mathlib.Core.Path.{◌≡◌, sym, ap, ◌∙◌}
use Prim.Native.Nat.{ℕ, ◌+◌, ◌<◌, ◌≤◌}
use native.Mathlib.Omega.{arith}
use lib.ListN.{length, set}
use Rattle.lists.specs.Lists.{over}
use Rattle.lists.proofs.Tab.{map-tab}
use Rattle.lists.proofs.Over.{Filling, filling-start, filling-turn, filling-end}
use Rattle.model.specs.Sheet.{segment_count}
use Rattle.model.specs.Flow.{Course, course_of, reach_at}
use Rattle.model.specs.HalfStep.{site_at, numbers, Segment, loaded_segment}
use Rattle.model.specs.State.{Columns, loaded_segments, write_segments}
use Rattle.terms.specs.Says.{reach_says, numbers_say}
use Rattle.terms.specs.Lent.{columns, Long}
use Rattle.terms.specs.declared.Reach.{Reach}
use Rattle.terms.specs.declared.Numbers.{Numbers}

-- i segments are written
pub record Writing (course : Course) (before : Columns) (i : ℕ) (lists : Columns) : Type 0 where
  pub e : Filling (λ j. (loaded_segment course j).numbers.e) before.numbers.e i lists.numbers.e
  pub g : Filling (λ j. (loaded_segment course j).numbers.g) before.numbers.g i lists.numbers.g
  pub l : Filling (λ j. (loaded_segment course j).numbers.l) before.numbers.l i lists.numbers.l
  pub a : Filling (λ j. (loaded_segment course j).numbers.a) before.numbers.a i lists.numbers.a
  pub b : Filling (λ j. (loaded_segment course j).numbers.b) before.numbers.b i lists.numbers.b
  pub k : Filling (λ j. (loaded_segment course j).numbers.k) before.numbers.k i lists.numbers.k
  pub ks : Filling (λ j. (loaded_segment course j).numbers.ks) before.numbers.ks i lists.numbers.ks
  pub h : Filling (λ j. (loaded_segment course j).numbers.h) before.numbers.h i lists.numbers.h
  pub m : Filling (λ j. (loaded_segment course j).numbers.m) before.numbers.m i lists.numbers.m
  pub s : Filling (λ j. (loaded_segment course j).numbers.s) before.numbers.s i lists.numbers.s
  pub cl : Filling (λ j. (loaded_segment course j).cl) before.cl i lists.cl
  pub cb : Filling (λ j. (loaded_segment course j).cb) before.cb i lists.cb
  pub kd : Filling (λ j. (loaded_segment course j).kd) before.kd i lists.kd
  pub start : Filling (λ j. (loaded_segment course j).start) before.start i lists.start

-- one more entry
turn : {f : ℕ → ℕ} {before list : List ℕ} {i n v : ℕ} → Filling f before i list → i < n → n ≤ length before → v ≡ f i →
    Filling f before (i + 1) (set list i v)
turn r h l e = filling-turn r (omega arith) e

-- one more segment
pub writing-turn : {course : Course} {before lists : Columns} {i n : ℕ} {x : Segment} → Writing course before i lists → Long n before → i < n →
    x ≡ loaded_segment course i →
    Writing course before (i + 1)
    (columns
    (set lists.numbers.e i x.numbers.e)
    (set lists.numbers.g i x.numbers.g)
    (set lists.numbers.l i x.numbers.l)
    (set lists.numbers.a i x.numbers.a)
    (set lists.numbers.b i x.numbers.b)
    (set lists.numbers.k i x.numbers.k)
    (set lists.numbers.ks i x.numbers.ks)
    (set lists.numbers.h i x.numbers.h)
    (set lists.numbers.m i x.numbers.m)
    (set lists.numbers.s i x.numbers.s)
    (set lists.cl i x.cl)
    (set lists.cb i x.cb)
    (set lists.kd i x.kd)
    (set lists.start i x.start))
writing-turn w long q is = record {
  e = turn w.e q long.numbers.e (ap (λ y. y.numbers.e) is);
  g = turn w.g q long.numbers.g (ap (λ y. y.numbers.g) is);
  l = turn w.l q long.numbers.l (ap (λ y. y.numbers.l) is);
  a = turn w.a q long.numbers.a (ap (λ y. y.numbers.a) is);
  b = turn w.b q long.numbers.b (ap (λ y. y.numbers.b) is);
  k = turn w.k q long.numbers.k (ap (λ y. y.numbers.k) is);
  ks = turn w.ks q long.numbers.ks (ap (λ y. y.numbers.ks) is);
  h = turn w.h q long.numbers.h (ap (λ y. y.numbers.h) is);
  m = turn w.m q long.numbers.m (ap (λ y. y.numbers.m) is);
  s = turn w.s q long.numbers.s (ap (λ y. y.numbers.s) is);
  cl = turn w.cl q long.cl (ap (λ y. y.cl) is);
  cb = turn w.cb q long.cb (ap (λ y. y.cb) is);
  kd = turn w.kd q long.kd (ap (λ y. y.kd) is);
  start = turn w.start q long.start (ap (λ y. y.start) is);
}

-- a list that is written
written : (x : Segment → ℕ) (sheet : List ℕ) (row : ℕ) (before : List ℕ) {i : ℕ} {list : List ℕ} → Filling (λ j. x (loaded_segment (course_of sheet row) j)) before i list →
    i ≡ segment_count sheet → list ≡ over (map x (loaded_segments sheet row)) before
written x sheet row before w h = filling-end (segment_count sheet) w h ∙ ap (λ l. over l before) (sym (map-tab x (loaded_segment (course_of sheet row)) 0 (segment_count sheet)))

-- all of them
pub writing-end : (sheet : List ℕ) (row : ℕ) {before lists : Columns} {i : ℕ} → Writing (course_of sheet row) before i lists → i ≡ segment_count sheet →
    lists ≡ write_segments (loaded_segments sheet row) before
unfolding write_segments
writing-end sheet row {before} {lists} w q =
    let e = written (λ y. y.numbers.e) sheet row before.numbers.e w.e q in
    let g = written (λ y. y.numbers.g) sheet row before.numbers.g w.g q in
    let l = written (λ y. y.numbers.l) sheet row before.numbers.l w.l q in
    let a = written (λ y. y.numbers.a) sheet row before.numbers.a w.a q in
    let b = written (λ y. y.numbers.b) sheet row before.numbers.b w.b q in
    let k = written (λ y. y.numbers.k) sheet row before.numbers.k w.k q in
    let ks = written (λ y. y.numbers.ks) sheet row before.numbers.ks w.ks q in
    let h = written (λ y. y.numbers.h) sheet row before.numbers.h w.h q in
    let m = written (λ y. y.numbers.m) sheet row before.numbers.m w.m q in
    let s = written (λ y. y.numbers.s) sheet row before.numbers.s w.s q in
    let cl = written (λ y. y.cl) sheet row before.cl w.cl q in
    let cb = written (λ y. y.cb) sheet row before.cb w.cb q in
    let kd = written (λ y. y.kd) sheet row before.kd w.kd q in
    let start = written (λ y. y.start) sheet row before.start w.start q in
    rw (← e, ← g, ← l, ← a, ← b, ← k, ← ks, ← h, ← m, ← s, ← cl, ← cb, ← kd, ← start)

-- what is written for a segment: its numbers, and the fields of its reach
pub segment-is : (course : Course) (i : ℕ) (x : Numbers) (own : Reach) → numbers_say x ≡ numbers (site_at course i) → reach_says own ≡ reach_at course i →
    record { numbers = numbers_say x; cl = own.cl; cb = own.cb; kd = own.kd; start = own.start } ≡ loaded_segment course i
unfolding loaded_segment
segment-is course i x own n r = rw (← n, ← r)
