-- An answer is known by what it says.
use Rattle.std.proofs.Common.{◌≡◌, ℕ, cond, eqb, get_or, Ok, Err, Result, sym, refl, ap, ◌∙◌}
use Rattle.causes.specs.Said.{Said}
use Rattle.store.specs.declared.fault.StoreFault.TheVariants.{Exists, Missing, NoRoom, TooLong, Short, Unavailable}
use Rattle.wal.specs.declared.fault.WalFault.{WalFault}
use Rattle.wal.specs.declared.fault.WalFault.TheVariants.{Store, Fenced, WalTruncated, Closed, DataError, InternalError, InvalidSSTBatchSize, InvalidDBState, IdsSpent, Attempts, OutOfOrder, WriterFull, Busy, TicketsSpent, NotReplayed, BlockSize}
use Rattle.wal.specs.Said.{said_pair}
use Rattle.wal.specs.Laws.{ToldApart}

-- the fault of a number and its values
fault_of : ℕ → ℕ → ℕ → ℕ → WalFault
fault_of n a b c =
    cond (eqb n 1) (Store (Exists a))
    (cond (eqb n 2) (Store (Missing a))
    (cond (eqb n 3) (Store (NoRoom a))
    (cond (eqb n 4) (Store (TooLong a))
    (cond (eqb n 5) (Store (Short a))
    (cond (eqb n 6) (Store (Unavailable a))
    (cond (eqb n 7) (Fenced a)
    (cond (eqb n 8) (WalTruncated a)
    (cond (eqb n 9) Closed
    (cond (eqb n 10) (DataError a b c)
    (cond (eqb n 11) (InternalError a b c)
    (cond (eqb n 12) (InvalidSSTBatchSize a)
    (cond (eqb n 13) (InvalidDBState a)
    (cond (eqb n 14) (IdsSpent a)
    (cond (eqb n 15) (Attempts a)
    (cond (eqb n 16) (OutOfOrder a)
    (cond (eqb n 17) (WriterFull a)
    (cond (eqb n 18) (Busy a b)
    (cond (eqb n 19) TicketsSpent
    (cond (eqb n 23) (NotReplayed a)
    (BlockSize a))))))))))))))))))))

told_fault : Said → WalFault
told_fault s = fault_of s.number (get_or s.values 0 0) (get_or s.values 1 0) (get_or s.values 2 0)

told : Said → Result (ℕ × ℕ) WalFault
told s = cond (eqb s.number 0) (Ok (get_or s.values 0 0, get_or s.values 1 0)) (Err (told_fault s))

told_back : (r : Result (ℕ × ℕ) WalFault) → told (said_pair r) ≡ r
unfolding told told_fault fault_of
told_back (Ok p) = refl
told_back (Err (Store (Exists a))) = refl
told_back (Err (Store (Missing a))) = refl
told_back (Err (Store (NoRoom a))) = refl
told_back (Err (Store (TooLong a))) = refl
told_back (Err (Store (Short a))) = refl
told_back (Err (Store (Unavailable a))) = refl
told_back (Err (Fenced a)) = refl
told_back (Err (WalTruncated a)) = refl
told_back (Err Closed) = refl
told_back (Err (DataError a b c)) = refl
told_back (Err (InternalError a b c)) = refl
told_back (Err (InvalidSSTBatchSize a)) = refl
told_back (Err (InvalidDBState a)) = refl
told_back (Err (IdsSpent a)) = refl
told_back (Err (Attempts a)) = refl
told_back (Err (OutOfOrder a)) = refl
told_back (Err (WriterFull a)) = refl
told_back (Err (Busy a b)) = refl
told_back (Err TicketsSpent) = refl
told_back (Err (NotReplayed a)) = refl
told_back (Err (BlockSize a)) = refl

pub same_said : (r s : Result (ℕ × ℕ) WalFault) → said_pair r ≡ said_pair s → r ≡ s
same_said r s e = sym (told_back r) ∙ ap told e ∙ told_back s

pub told_apart : ToldApart
told_apart f g e = let q : ◌≡◌ {A = Result (ℕ × ℕ) WalFault} (Err f) (Err g) = same_said (Err f) (Err g) e in cc
