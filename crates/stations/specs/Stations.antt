-- The stations of a script.
use Rattle.std.specs.Prelude.{◌≡◌, ℕ, ◌+◌, ◌-◌, ◌^◌, ◌<◌, min, List, [], map, length, Some, None, Option, ◌≢◌, slice_index_or}
use Rattle.stations.specs.declared.station.Ending.{Ending}
use Rattle.stations.specs.declared.station.Ending.TheVariants.{Open}
use Rattle.stations.specs.declared.station.Station.{Station}
use Rattle.stations.specs.declared.station.Tables.{Tables}
use Rattle.stations.specs.Names.{spelled}

-- the names of stations, in their order
abbrev pub names : List Station → List (List ℕ)
names stations = map (λ (s : Station). spelled s.name) stations

-- the place of a name, or that no station has it
abbrev pub Finds : List Station → List ℕ → Option ℕ → Type 0
Finds stations w (Some i) = (i < length stations) × (slice_index_or (names stations) i [] ≡ w)
Finds stations w None = (i : ℕ) → i < length stations → slice_index_or (names stations) i [] ≢ w

-- what a replay has handed out: nothing yet, one table more, and how it ended
abbrev pub no_tables : Tables
no_tables = record { tables = 0; rows = 0; ending = Open }

abbrev pub one_more : Tables → ℕ → Tables
one_more t n = record { tables = min (t.tables + 1) (2 ^ 64 - 1); rows = min (t.rows + n) (2 ^ 64 - 1); ending = t.ending }

abbrev pub ended_so : Tables → Ending → Tables
ended_so t e = record { tables = t.tables; rows = t.rows; ending = e }
