-- Document 01, "Flow and half-step numbers": the ten numbers of a segment, each "its fraction times one whole, to the nearest".
use Rattle.std.specs.Prelude.{Bool, cond, ℕ, suc, ◌+◌, ◌-◌, ◌*◌, ◌^◌, eqb, ℤ, pos, negsuc, length}
use Rattle.rounding.specs.Nearest.{parts}
use Rattle.model.specs.Sheet.{Reach, Hydraulics}
use Rattle.model.specs.Flow.{Course, reach_at, bands_at, flow_at}
use Rattle.model.specs.Bands.{hydraulics_at}

-- what the half-step numbers of a segment are worked out from: its reach, its A, D and AS, and the AD above and below it
pub record Site : Type 0 where
  pub own : Reach
  pub hydraulics : Hydraulics
  pub above : ℕ
  pub below : ℕ
  pub flow : ℤ
  pub last : Bool
  pub dt : ℕ
  pub dx : ℕ

-- "AD is A × D of a segment"
abbrev pub ad : Hydraulics → ℕ
ad x = x.area * x.dispersion

-- Q as the formulas read it: a flow below 0 is refused (10) before any of them is used
abbrev pub natural : ℤ → ℕ
natural (pos n) = n
natural (negsuc n) = 0

-- A, D and AS of segment i: "Each segment takes the band that holds its own flow"
unfoldable pub hydraulics_of : Course → ℕ → Hydraulics
hydraulics_of course i = hydraulics_at (bands_at course i) (reach_at course i) (natural (flow_at course i))

-- segment i of a course, from 0 at the top; "above the first and below the last, its own is used": 0 − 1 is 0
unfoldable pub site_at : Course → ℕ → Site
site_at course i =
    let last = eqb (suc i) (length course.river) in
    record {
      own = reach_at course i;
      hydraulics = hydraulics_of course i;
      above = ad (hydraulics_of course (i - 1));
      below = ad (hydraulics_of course (cond last i (suc i)));
      flow = flow_at course i;
      last = last;
      dt = course.dt;
      dx = course.dx;
    }

-- Q of a segment
abbrev pub discharge : Site → ℕ
discharge site = natural site.flow

-- a fraction of the formulas below; that its denominator is above 0 rests on tests 5 and 6
pub record Ratio : Type 0 where
  pub numerator : ℕ
  pub denominator : ℕ

-- as the formulas write it
infix 5 ◌÷◌
abbrev pub ◌÷◌ : ℕ → ℕ → Ratio
n ÷ d = record { numerator = n; denominator = d }

-- one A for each of the ten half-step numbers
pub record Ten (A : Type 0) : Type 0 where
  pub e : A
  pub g : A
  pub l : A
  pub a : A
  pub b : A
  pub k : A
  pub ks : A
  pub h : A
  pub m : A
  pub s : A

-- by their places: e, g, l, a, b, k, ks, h, m, s
abbrev pub ten : {A : Type 0} → (e g l a b k ks h m s : A) → Ten A
ten e g l a b k ks h m s = record { e = e; g = g; l = l; a = a; b = b; k = k; ks = ks; h = h; m = m; s = s }

-- ten by one rule: `part` takes the number at hand out of any ten
abbrev pub ten_of : {B : Type 0} → ((part : (A : Type 0) → Ten A → A) → B) → Ten B
ten_of rule =
    ten (rule (λ A x. x.e)) (rule (λ A x. x.g)) (rule (λ A x. x.l)) (rule (λ A x. x.a)) (rule (λ A x. x.b))
    (rule (λ A x. x.k)) (rule (λ A x. x.ks)) (rule (λ A x. x.h)) (rule (λ A x. x.m)) (rule (λ A x. x.s))

-- f of each
abbrev pub map_ten : {A B : Type 0} → (A → B) → Ten A → Ten B
map_ten f x = ten_of (λ part. f (part _ x))

-- "a = dt × ALPHA / (2 × 10⁹)"
abbrev pub rate_of : (dt rate : ℕ) → Ratio
rate_of dt rate = dt * rate ÷ (2 * 10 ^ 9)

-- the ten fractions of a segment
unfoldable pub fractions : Site → Ten Ratio
fractions site =
    let dt = site.dt in
    let dx = site.dx in
    let r = site.own in
    let x = site.hydraulics in
    let Q = discharge site in
    record {
      -- "e = dt × (Q × dx + AD above + AD own) / (4 × A × dx²)"
      e = dt * (Q * dx + site.above + ad x) ÷ (4 * x.area * (dx * dx));
      -- "g = dt × (AD own + AD below − Q × dx) / (4 × A × dx²); 0 in the last segment." The difference is below 0 only where 11 refuses.
      g = cond site.last 0 (dt * (ad x + site.below - Q * dx)) ÷ (4 * x.area * (dx * dx));
      -- "l = dt × qin / (2 × 10⁵ × A)"
      l = dt * r.qin ÷ (2 * 10 ^ 5 * x.area);
      a = rate_of dt r.alpha;
      -- "b = dt × ALPHA × A / (2 × 10⁹ × AS)"
      b = dt * r.alpha * x.area ÷ (2 * 10 ^ 9 * x.area2);
      -- "k, ks, h, m as a, from LAMBDA, LAMBDA2, LAMHAT, LAMHAT2"
      k = rate_of dt r.lambda;
      ks = rate_of dt r.lambda2;
      h = rate_of dt r.lamhat;
      m = rate_of dt r.lamhat2;
      -- "s = dt × LAMHAT × RHO × Kd / (2 × 10¹⁵)"
      s = dt * r.lamhat * r.rho * r.kd ÷ (2 * 10 ^ 15);
    }

-- a fraction as a half-step number
abbrev pub rounded : Ratio → ℕ
rounded f = parts f.numerator f.denominator

-- the ten numbers
abbrev pub Numbers : Type 0
Numbers = Ten ℕ

-- those of a segment
unfoldable pub numbers : Site → Numbers
numbers site = map_ten rounded (fractions site)

-- what a loading gives for one segment: "half-step numbers, CL, CB, Kd and start figure"
pub record Segment : Type 0 where
  pub numbers : Numbers
  pub cl : ℕ
  pub cb : ℕ
  pub kd : ℕ
  pub start : ℕ

-- segment i of a course
unfoldable pub loaded_segment : Course → ℕ → Segment
loaded_segment course i =
    let r = reach_at course i in
    record { numbers = numbers (site_at course i); cl = r.cl; cb = r.cb; kd = r.kd; start = r.start }
