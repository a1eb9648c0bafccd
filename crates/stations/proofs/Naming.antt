-- A station at a place, by its name.
use Rattle.std.proofs.Common.{◌≡◌, ℕ, ◌<◌, List, [], ◌∷◌, length, get_or, Some, None, Option, ◌≢◌, sym, subst, arith}
use Rattle.std.specs.List.{AllWithin, HoldsAt}
use Rattle.std.specs.Option.{MatchOption}
use Rattle.std.proofs.lemmas.List.{get_or-map}
use Rattle.stations.specs.declared.station.Station.{Station}
use Rattle.stations.specs.Names.{spelled}
use Rattle.stations.specs.Stations.{Finds, names}

abbrev pub Has : List ℕ → Station → Type 0
Has w s = spelled s.name ≡ w

abbrev pub Lacks : List ℕ → Station → Type 0
Lacks w s = spelled s.name ≢ w

-- the name of the station at a place
at : (stations : List Station) (P : List ℕ → Type 0) (i : ℕ) → i < length stations → ((d : Station) → P (spelled (get_or stations i d).name)) → P (get_or (names stations) i [])
at [] P i l h = absurd (omega arith)
at (s ∷ ss) P i l h = subst P (sym (get_or-map (λ (x : Station). spelled x.name) (s ∷ ss) i s [] l)) (h s)

-- the first station of a name, or none
pub found : (stations : List Station) (w : List ℕ) (r : Option ℕ) → MatchOption r (AllWithin (Lacks w) stations 0 (length stations)) (λ i. (i < length stations) × HoldsAt (Has w) stations i × AllWithin (Lacks w) stations 0 i) → Finds stations w r
found stations w None h = λ i l. at stations (λ n. n ≢ w) i l (λ d. h i d (omega arith) l)
found stations w (Some i) h = (h.0, at stations (λ n. n ≡ w) i h.0 h.1)
