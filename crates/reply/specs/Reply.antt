-- "A reply carries either a count or a refusal's number with its place."
-- What each case of the enum of reasons stands for: this list says it, and the numbers in the code are proved to be these.
use Rattle.std.specs.Prelude.{ℕ, Result, Ok, Err}
use Rattle.reply.specs.declared.Reason.{Reason}
use Rattle.reply.specs.declared.Reason.TheVariants.{ShortRoom, RollLength, NodeLabel, SecondByte, ParentField, AnnotationLength, FilterLength, EntryMalformed, EntryHeight, AnnotationRecord, PairOrder, QueryTable, TextLength, NotInGrammar, TooManyOpen, TableTooLarge, FileUnreadable, TextTooLong, TwoStars, RulesMalformed, ChildrenForbidden}
use Rattle.reply.specs.declared.Refusal.{Refusal}

-- "Numbers given back on refusal": the number of each row.
abbrev pub number : Reason → ℕ
number ShortRoom = 1
number RollLength = 2
number NodeLabel = 3
number SecondByte = 4
number ParentField = 5
number AnnotationLength = 6
number FilterLength = 7
number EntryMalformed = 8
number EntryHeight = 9
number AnnotationRecord = 10
number PairOrder = 11
number QueryTable = 12
number TextLength = 13
number NotInGrammar = 14
number TooManyOpen = 15
number TableTooLarge = 16
number FileUnreadable = 17
number TextTooLong = 18
number TwoStars = 19
number RulesMalformed = 20
number ChildrenForbidden = 21

-- What a reply says.
pub data Said : Type 0 where
  count : ℕ → Said
  refused : (number place : ℕ) → Said

abbrev pub said : Result ℕ Refusal → Said
said (Ok n) = count n
said (Err r) = refused (number r.reason) r.place
