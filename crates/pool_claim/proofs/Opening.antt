-- An accepted opening begins a river: its state is that of a start made alone on the lists that the loading left.
use mathlib.Core.Path.{◌≡◌, sym, ap, ◌∙◌}
use mathlib.Core.List.{List, [], ◌∷◌, map}
use Prim.Native.Nat.{ℕ}
use lib.Dec.{T}
use lib.ListN.{length, replicate, length-map, length-replicate}
use Rattle.lists.specs.Lists.{over}
use Rattle.lists.proofs.Tab.{length-tab}
use Rattle.model.specs.Sheet.{reach_of, segment_count}
use Rattle.model.specs.Equations.{Figures}
use Rattle.model.specs.State.{Columns, State, loaded_segments, write_segments}
use Rattle.model.specs.Refusals.{passes, first, accepted}
use Rattle.model.specs.Load.{loaded, load_answer}
use Rattle.model.specs.Highest.{highest_of}
use Rattle.model.specs.Calls.{no_working, start_figures, start_tests, start_left, start, call_result}
use Rattle.model.specs.Runs.{alone, accepts, after, run, OwnLists}
use Rattle.model.specs.Pool.{Pool, pool_after_open}
use Rattle.model.specs.PoolRuns.{Own}
use Rattle.model.proofs.Calls.{result-passes}
use Rattle.loading_laws.proofs.Loaded.{known, loads, left-loaded, start-passes}
use Rattle.pool_laws.proofs.Tables.{room-clear}
use Rattle.pool_laws.proofs.Pools.{Sound, Others, started, NewlyOpened, with-opened}
use Rattle.pool_claim.proofs.Lengths.{write-all}
use Rattle.pool_laws.proofs.Openings.{Passed}
use Rattle.pool_claim.proofs.Follows.{Begun, Following}

-- the figures at the start
abbrev start_of : List ℕ → (r : ℕ) → (Figures → ℕ) → List ℕ
start_of sheet r part = map part (map start_figures (loaded_segments sheet r))

-- one for each segment
start-many : (sheet : List ℕ) (r : ℕ) → length (map start_figures (loaded_segments sheet r)) ≡ segment_count sheet
start-many sheet r = length-map (loaded_segments sheet r) start_figures ∙ length-tab _ 0 (segment_count sheet)

-- in each list
start-length : (sheet : List ℕ) (r : ℕ) (part : Figures → ℕ) → length (start_of sheet r part) ≡ segment_count sheet
start-length sheet r part = length-map (map start_figures (loaded_segments sheet r)) part ∙ start-many sheet r

-- the state at the start
abbrev started_state : List ℕ → (r u : ℕ) → State
started_state sheet r u = started (start_of sheet r (λ f. f.c)) (start_of sheet r (λ f. f.z)) (start_of sheet r (λ f. f.w)) u

module _ (pool : Pool) (number : ℕ) (sheet : List ℕ) (r records : ℕ) (columns : Columns) (highest : List ℕ) (u : ℕ)
    (p : Passed pool number sheet r records columns highest u) where
  -- the lists that the river is left by its opening
  abbrev new_columns : Columns
  new_columns = write_segments (loaded_segments sheet r) columns

  -- its own calls
  abbrev new_own : Own
  new_own = record { sheet = sheet; count = segment_count sheet; columns = new_columns; highest = highest; u = u; since = [] }

  -- a start on them passes its tests
  passed : (before : State) → OwnLists (segment_count sheet) before → first (start_tests (segment_count sheet) new_columns before highest u) ≡ passes
  passed before lists = start-passes sheet r records columns p.front p.lists before lists highest p.blocks u p.upstream

  -- the start made alone leaves the start figures, and the highest of them
  pub start_left_lem : (before : State) → OwnLists (segment_count sheet) before → call_result (segment_count sheet) before (start new_columns highest u) ≡ record {
    answer = accepted (record { upstream = u; steps = 0 });
    left = record {
      state = started_state sheet r u;
      highest = over (highest_of (segment_count sheet) (start_of sheet r (λ f. f.c))) highest;
      working = no_working;
    };
  }
  unfolding start_left
  start_left_lem before lists =
      result-passes (segment_count sheet) before (start new_columns highest u) (passed before lists)
      ∙ rw (
        (left-loaded sheet r records columns p.front p.lists).segments,
        write-all (map start_figures (loaded_segments sheet r)) u 0 (segment_count sheet) before (start-many sheet r) lists,
      )

  start-alone : (before : State) → OwnLists (segment_count sheet) before → run before (alone (segment_count sheet) (start new_columns highest u) ∷ []) ≡ started_state sheet r u
  unfolding run after
  start-alone before lists = ap (λ x. x.left.state) (start_left_lem before lists)

  -- and is accepted
  start-accepted : (before : State) → OwnLists (segment_count sheet) before → T (accepts before (alone (segment_count sheet) (start new_columns highest u)))
  unfolding accepts
  start-accepted before lists = rw (start_left_lem before lists) tt

  -- so is the loading
  load-accepted : (many : ℕ) → many ≡ records → load_answer sheet r many columns ≡ accepted (loaded sheet)
  load-accepted many e = rw e (loads sheet r records columns p.front p.lists)

  -- so the river has begun
  begun : Begun sheet (segment_count sheet) new_columns highest u
  begun = record {
    flow = r;
    records = replicate records (reach_of (λ k. 0));
    columns = columns;
    loading = load-accepted _ (length-replicate records (reach_of (λ k. 0)));
    lists = record {
      flow = r;
      known = known sheet r records columns p.front p.lists;
      lists = left-loaded sheet r records columns p.front p.lists;
    };
    starts = start-accepted;
  }

  -- the pool afterwards
  abbrev new_pool : Pool
  new_pool = pool_after_open (accepted (loaded sheet)) sheet r pool number u

  -- it is sound, the other rivers are as they were, and the new one follows its own calls
  pub record Begins : Type 0 where
    pub sound : Sound new_pool
    pub others : Others pool new_pool number
    pub follows : Following new_pool number new_own

  -- and so it is of an accepted opening in a sound pool
  pub begins : Sound pool → Begins
  unfolding loaded
  begins sound =
      let c = start_of sheet r (λ f. f.c) in
      let z = start_of sheet r (λ f. f.z) in
      let w = start_of sheet r (λ f. f.w) in
      let o : NewlyOpened pool number (segment_count sheet) c z w u = with-opened pool number (segment_count sheet) sound p.room p.shared c z w u
      (record { channel = start-length sheet r (λ f. f.c); storage = start-length sheet r (λ f. f.z); sediment = start-length sheet r (λ f. f.w) }) in
      let room = room-clear pool.table number (segment_count sheet) p.room in
      record {
        sound = o.sound;
        others = o.others;
        follows = record {
          least = room.0;
          most = room.1;
          opened = o.opened;
          segments = o.segments;
          begun = begun;
          figures = λ before lists. o.is ∙ sym (start-alone before lists);
        };
      }
