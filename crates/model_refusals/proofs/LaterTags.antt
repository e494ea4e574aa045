-- The refusals from 80 on are the last twelve cases of the enum, those with a tag from 30 on.
use Rattle.model.proofs.Prelude.{ℕ, suc, zero, ◌≡◌, refl, sym, subst, inl, inr, true, Bool, List, [], ◌∷◌, leb, T}
use types.Run.{OneOf}
use denote.Enum.Declared.{tag_of}
use Rattle.model.specs.Base.{all_of}
use Rattle.model.specs.Refusals.{refusal_number_of}
use Rattle.model.specs.contracts.Refusal as enum
use Rattle.model.specs.declared.Refusal.{Refusal}
use Rattle.model.specs.declared.Refusal.TheVariants as why
use Rattle.model.proofs.BoolLaws.{and_left, and_right}

-- one of some tags has what they all have
pub one_of_all : (f : ℕ → Bool) (k : ℕ) (ks : List ℕ) (x : ℕ) → T (all_of f (k ∷ ks)) → OneOf (k ∷ ks) x → T (f x)
one_of_all f k [] x t e = subst (λ (y : ℕ). T (f y)) (sym e) (and_left (f k) true t)
one_of_all f k (k' ∷ ks) x t (inl e) = subst (λ (y : ℕ). T (f y)) (sym e) (and_left (f k) (all_of f (k' ∷ ks)) t)
one_of_all f k (k' ∷ ks) x t (inr e) = one_of_all f k' ks x (and_right (f k) (all_of f (k' ∷ ks)) t) e

-- the `n` tags from `k` on
abbrev pub tags_from : ℕ → ℕ → List ℕ
tags_from k zero = []
tags_from k (suc n) = k ∷ tags_from (suc k) n

pub later-tags : (w : Refusal) → leb 30 (tag_of enum.the_type w) ≡ leb 80 (refusal_number_of w)
later-tags why.StoreLength = refl
later-tags why.WorkLength = refl
later-tags why.PathBufferLength = refl
later-tags why.ReportBufferLength = refl
later-tags why.Header = refl
later-tags why.HeaderRange = refl
later-tags why.GateCut = refl
later-tags why.GateKind = refl
later-tags why.PinCount = refl
later-tags why.PinNotLower = refl
later-tags why.CountOverLimit = refl
later-tags why.OutputCut = refl
later-tags why.OutputNet = refl
later-tags why.BytesLeftOver = refl
later-tags why.TotalOverLimit = refl
later-tags why.RecordLength = refl
later-tags why.RecordMark = refl
later-tags why.SpareBit = refl
later-tags why.TestFileLength = refl
later-tags why.RunCount = refl
later-tags why.RunRange = refl
later-tags why.WordPastRuns = refl
later-tags why.WorkingRuns = refl
later-tags why.StoreRuns = refl
later-tags why.NoSuchNumber = refl
later-tags why.NotAPath = refl
later-tags why.ReportMark = refl
later-tags why.ReportLength = refl
later-tags why.ReportBytes = refl
later-tags why.NetlistBufferLength = refl
later-tags why.BenchLine = refl
later-tags why.BenchName = refl
later-tags why.BenchCount = refl
later-tags why.UnknownClass = refl
later-tags why.PathTooLong = refl
later-tags why.UnchangedPair = refl
later-tags why.TestsFull = refl
later-tags why.TreeLength = refl
later-tags why.TreeWords = refl
later-tags why.ViewerPlaces = refl
later-tags why.ForeignFault = refl
later-tags why.TooManyInputs = refl
