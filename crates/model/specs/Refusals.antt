-- The papers' number for each case of the code's `Refusal`.
use Rattle.std.specs.Prelude.{ℕ}
use Rattle.model.specs.declared.Refusal.{Refusal}
use Rattle.model.specs.declared.Refusal.TheVariants as why

abbrev pub refusal_number_of : Refusal → ℕ
refusal_number_of why.StoreLength = 1
refusal_number_of why.WorkLength = 2
refusal_number_of why.PathBufferLength = 3
refusal_number_of why.ReportBufferLength = 4
refusal_number_of why.Header = 10
refusal_number_of why.HeaderRange = 11
refusal_number_of why.GateCut = 12
refusal_number_of why.GateKind = 13
refusal_number_of why.PinCount = 14
refusal_number_of why.PinNotLower = 15
refusal_number_of why.CountOverLimit = 17
refusal_number_of why.OutputCut = 18
refusal_number_of why.OutputNet = 19
refusal_number_of why.BytesLeftOver = 20
refusal_number_of why.TotalOverLimit = 21
refusal_number_of why.RecordLength = 30
refusal_number_of why.RecordMark = 31
refusal_number_of why.SpareBit = 32
refusal_number_of why.TestFileLength = 33
refusal_number_of why.RunCount = 40
refusal_number_of why.RunRange = 41
refusal_number_of why.WordPastRuns = 42
refusal_number_of why.WorkingRuns = 50
refusal_number_of why.StoreRuns = 51
refusal_number_of why.NoSuchNumber = 60
refusal_number_of why.NotAPath = 61
refusal_number_of why.ReportMark = 70
refusal_number_of why.ReportLength = 71
refusal_number_of why.ReportBytes = 72
refusal_number_of why.NetlistBufferLength = 4
refusal_number_of why.BenchLine = 80
refusal_number_of why.BenchName = 81
refusal_number_of why.BenchCount = 82
refusal_number_of why.UnknownClass = 83
refusal_number_of why.PathTooLong = 84
refusal_number_of why.UnchangedPair = 85
refusal_number_of why.TestsFull = 86
refusal_number_of why.TreeLength = 87
refusal_number_of why.TreeWords = 88
refusal_number_of why.ViewerPlaces = 89
refusal_number_of why.ForeignFault = 90
refusal_number_of why.TooManyInputs = 91
