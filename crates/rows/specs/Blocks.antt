-- Which block sizes are refused, and with what.
use Rattle.std.specs.Prelude.{◌≡◌, ℕ, ◌<◌, ◌⊎◌, Ok, Err, Result}
use Rattle.rows.specs.declared.block.BlockSize.{BlockSize}
use Rattle.rows.specs.declared.block.making.BadBlockSize.{BadBlockSize}

-- 0 or above 65,536
abbrev pub Bad : ℕ → Type 0
Bad n = (n ≡ 0) ⊎ (65536 < n)

abbrev pub Makes : ℕ → Result BlockSize BadBlockSize → Type 0
Makes n (Ok b) = b.bytes ≡ n
Makes n (Err e) = Bad n × (e.0 ≡ n)
