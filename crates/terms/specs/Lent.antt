-- What a call is lent, gathered as the records of `model`'s definitions: first lists by themselves, then those that are lent together, as a struct of
-- `terms`: `.._of` reads what may only be read, `.._lent` what is lent to be written, and `.._left` what then stands there.
use Rattle.std.specs.Prelude.{◌≡◌, List, ℕ, zero, suc, ◌+◌, ◌*◌, ◌≤◌, length, get_or}
use Rattle.std.specs.Borrow.{MutBor}
use Rattle.lists.specs.Lists.{tab}
use Rattle.model.specs.Ranges.{most_rivers}
use Rattle.model.specs.HalfStep.{ten}
use Rattle.model.specs.State as Document
use Rattle.model.specs.State.{NumberSet, State}
use Rattle.model.specs.Calls.{Working, Left}
use Rattle.model.specs.Pool.{Slot, Pool}
use Rattle.terms.specs.declared.Set.{Set}
use Rattle.terms.specs.declared.Columns.{Columns}
use Rattle.terms.specs.declared.ColumnsMut.{ColumnsMut}
use Rattle.terms.specs.declared.StateLists.{StateLists}
use Rattle.terms.specs.declared.StateListsMut.{StateListsMut}
use Rattle.terms.specs.declared.WorkingMut.{WorkingMut}

-- a set: its ten lists
abbrev pub set : (e g l a b k ks h m s : List ℕ) → NumberSet
set e g l a b k ks h m s = ten e g l a b k ks h m s

-- the fourteen lists
abbrev pub columns : (e g l a b k ks h m s cl cb kd start : List ℕ) → Document.Columns
columns e g l a b k ks h m s cl cb kd start = record { numbers = set e g l a b k ks h m s; cl = cl; cb = cb; kd = kd; start = start }

-- the state: its three lists, U and the count of steps done
abbrev pub state : (channel storage sediment : List ℕ) → (upstream steps : ℕ) → State
state channel storage sediment upstream steps =
    record { channel = channel; storage = storage; sediment = sediment; upstream = upstream; steps = steps }

-- the working lists of a step
abbrev pub working : (p y : List ℕ) → Working
working p y = record { p = p; y = y }

-- what a call leaves: the state or the pool, the highest figures and the working lists
abbrev pub left : {S : Type 0} → S → (highest : List ℕ) → Working → Left S
left state highest working = record { state = state; highest = highest; working = working }

-- a table is lent as forty numbers, five for each slot: the slot at place i
abbrev pub slot_in : List ℕ → ℕ → Slot
slot_in numbers i = record {
  opened = get_or numbers (5 * i) 0;
  first = get_or numbers (5 * i + 1) 0;
  segments = get_or numbers (5 * i + 2) 0;
  upstream = get_or numbers (5 * i + 3) 0;
  steps = get_or numbers (5 * i + 4) 0;
}

-- its eight slots
unfoldable pub table_in : List ℕ → List Slot
table_in numbers = tab 0 most_rivers (slot_in numbers)

-- the pool: the three shared lists and the table
abbrev pub pool : (channel storage sediment table : List ℕ) → Pool
pool channel storage sediment table = record { table = table_in table; channel = channel; storage = storage; sediment = sediment }

-- ---- lent together

abbrev pub set_of : Set → NumberSet
set_of x = set x.e.now x.g.now x.l.now x.a.now x.b.now x.k.now x.ks.now x.h.now x.m.now x.s.now

abbrev pub columns_of : Columns → Document.Columns
columns_of x = record { numbers = set_of x.numbers; cl = x.cl.now; cb = x.cb.now; kd = x.kd.now; start = x.start.now }

abbrev pub columns_lent : ColumnsMut → Document.Columns
columns_lent x =
    columns x.e.now x.g.now x.l.now x.a.now x.b.now x.k.now x.ks.now x.h.now x.m.now x.s.now x.cl.now x.cb.now x.kd.now x.start.now

-- the three lists of a state, with U and the count
abbrev pub state_of : StateLists → (upstream steps : ℕ) → State
state_of x upstream steps = state x.channel.now x.storage.now x.sediment.now upstream steps

abbrev pub state_lent : StateListsMut → (upstream steps : ℕ) → State
state_lent x upstream steps = state x.channel.now x.storage.now x.sediment.now upstream steps

-- the pool, where its table holds these numbers
abbrev pub pool_of : StateLists → (table : List ℕ) → Pool
pool_of x table = pool x.channel.now x.storage.now x.sediment.now table

abbrev pub pool_lent : StateListsMut → (table : List ℕ) → Pool
pool_lent x table = pool x.channel.now x.storage.now x.sediment.now table

abbrev pub working_lent : WorkingMut → Working
working_lent x = working x.p.now x.y.now

-- what stands behind one reference after another, as a call leaves them
abbrev Lists : ℕ → Type 0
Lists zero = Unit {0}
Lists (suc n) = MutBor (List ℕ) × Lists n

abbrev pub columns_left : Lists 14 → Document.Columns
columns_left (e, (g, (l, (a, (b, (k, (ks, (h, (m, (s, (cl, (cb, (kd, (start, end)))))))))))))) =
    columns e.now g.now l.now a.now b.now k.now ks.now h.now m.now s.now cl.now cb.now kd.now start.now

abbrev pub state_left : Lists 3 → (upstream steps : ℕ) → State
state_left (channel, (storage, (sediment, end))) upstream steps = state channel.now storage.now sediment.now upstream steps

abbrev pub pool_left : Lists 3 → (table : List ℕ) → Pool
pool_left (channel, (storage, (sediment, end))) table = pool channel.now storage.now sediment.now table

abbrev pub working_left : Lists 2 → Working
working_left (p, (y, end)) = working p.now y.now

-- the references are the same, whatever now stands behind them
pub record SameColumns (before after : ColumnsMut) : Type 0 where
  pub e : after.e.ghost_name ≡ before.e.ghost_name
  pub g : after.g.ghost_name ≡ before.g.ghost_name
  pub l : after.l.ghost_name ≡ before.l.ghost_name
  pub a : after.a.ghost_name ≡ before.a.ghost_name
  pub b : after.b.ghost_name ≡ before.b.ghost_name
  pub k : after.k.ghost_name ≡ before.k.ghost_name
  pub ks : after.ks.ghost_name ≡ before.ks.ghost_name
  pub h : after.h.ghost_name ≡ before.h.ghost_name
  pub m : after.m.ghost_name ≡ before.m.ghost_name
  pub s : after.s.ghost_name ≡ before.s.ghost_name
  pub cl : after.cl.ghost_name ≡ before.cl.ghost_name
  pub cb : after.cb.ghost_name ≡ before.cb.ghost_name
  pub kd : after.kd.ghost_name ≡ before.kd.ghost_name
  pub start : after.start.ghost_name ≡ before.start.ghost_name

pub record SameState (before after : StateListsMut) : Type 0 where
  pub channel : after.channel.ghost_name ≡ before.channel.ghost_name
  pub storage : after.storage.ghost_name ≡ before.storage.ghost_name
  pub sediment : after.sediment.ghost_name ≡ before.sediment.ghost_name

pub record SameWorking (before after : WorkingMut) : Type 0 where
  pub p : after.p.ghost_name ≡ before.p.ghost_name
  pub y : after.y.ghost_name ≡ before.y.ghost_name

-- each list of a set has an entry for each of n segments
pub record LongSet (n : ℕ) (x : NumberSet) : Type 0 where
  pub e : n ≤ length x.e
  pub g : n ≤ length x.g
  pub l : n ≤ length x.l
  pub a : n ≤ length x.a
  pub b : n ≤ length x.b
  pub k : n ≤ length x.k
  pub ks : n ≤ length x.ks
  pub h : n ≤ length x.h
  pub m : n ≤ length x.m
  pub s : n ≤ length x.s

-- each of the fourteen lists has
pub record Long (n : ℕ) (x : Document.Columns) : Type 0 where
  pub numbers : LongSet n x.numbers
  pub cl : n ≤ length x.cl
  pub cb : n ≤ length x.cb
  pub kd : n ≤ length x.kd
  pub start : n ≤ length x.start

-- and each of the state's lists
pub record LongFigures (n : ℕ) (c z w : List ℕ) : Type 0 where
  pub channel : n ≤ length c
  pub storage : n ≤ length z
  pub sediment : n ≤ length w
