-- Why two replies that fit one promise are equal: a reply is what it says, a lowest fault is one fault, and so an outcome is one outcome.
-- Assumes nothing.
use Prim.Native.Nat.{ℕ, pred, ◌<◌}
use native.Mathlib.Omega.{arith}
use mathlib.Core.Path.{◌≡◌, refl, sym, ap, ap₂, ◌∙◌, subst}
use mathlib.Core.Logic.{◌≢◌}
use mathlib.Core.List.{[], ◌∷◌, ◌++◌}
use lib.ListN.{length, get_or, drop}
use Rattle.reply.specs.declared.Reason.{Reason}
use Rattle.reply.specs.declared.Reason.TheVariants.{ShortRoom, RollLength, NodeLabel, SecondByte, ParentField, AnnotationLength, FilterLength, EntryMalformed, EntryHeight, AnnotationRecord, PairOrder, QueryTable, TextLength, NotInGrammar, TooManyOpen, TableTooLarge, FileUnreadable, TextTooLong, TwoStars, RulesMalformed, ChildrenForbidden}
use Rattle.std.specs.Prelude.{Result, Ok, Err}
use Rattle.reply.specs.declared.Refusal.{Refusal}
use Rattle.reply.specs.Reply.{number, Said, count, refused, said}
use Rattle.reply.specs.Bytes.{Bytes, Written}
use Rattle.reply.specs.Outcome.{Lowest, InTurn, first, behind, Outcome, done, short, turned_away, Checked}

-- an input has at most one fault
abbrev pub OneFault : (ℕ → ℕ → Type 0) → Type 0
OneFault Fault = (n m p q : ℕ) → Fault n p → Fault m q → (n ≡ m) × (p ≡ q)

-- an input with a fault is not right
abbrev pub Wrong : Type 0 → (ℕ → ℕ → Type 0) → Type 0
Wrong Right Fault = (n p : ℕ) → Fault n p → ¬ Right

-- the lowest faulty record is one record, where a record has at most one fault and a faulty one is not right
pub lowest_one : {Right : ℕ → Type 0} {Fault : ℕ → ℕ → Type 0} {size : ℕ} → ((n i : ℕ) → Fault n i → ¬ Right i) → ((n m i : ℕ) → Fault n i → Fault m i → n ≡ m)
    → OneFault (Lowest Right Fault size)
lowest_one {Fault = Fault} wrong one n m p q a b =
    let not_less : ¬ (p < q) = λ l. wrong n p a.faulty (b.lowest p l) in
    let not_more : ¬ (q < p) = λ l. wrong m q b.faulty (a.lowest q l) in
    let same : p ≡ q = omega arith in
    (one n m q (subst (λ (i : ℕ). Fault n i) same a.faulty) b.faulty, same)

-- inputs that are checked in turn have at most one fault
pub in_turn_one : {Right : Type 0} {First Behind : ℕ → ℕ → Type 0} → Wrong Right First → OneFault First → OneFault Behind → OneFault (InTurn Right First Behind)
in_turn_one wrong one rest n m p q (first a) (first b) = one n m p q a b
in_turn_one wrong one rest n m p q (first a) (behind r b) = absurd (wrong n p a r)
in_turn_one wrong one rest n m p q (behind r a) (first b) = absurd (wrong m q b r)
in_turn_one wrong one rest n m p q (behind r a) (behind s b) = rest n m p q a b

pub in_turn_wrong : {Right Rest : Type 0} {First Behind : ℕ → ℕ → Type 0} → Wrong Right First → Wrong Rest Behind → Wrong (Right × Rest) (InTurn Right First Behind)
in_turn_wrong wrong rest n p (first a) g = wrong n p a g.0
in_turn_wrong wrong rest n p (behind r a) g = rest n p a g.1

-- two outcomes of one call on the same inputs and bytes are one
pub outcome_one : {room : ℕ} {Right : Type 0} {Fault : ℕ → ℕ → Type 0} {Done : ℕ → Bytes → Type 0} {before : Bytes}
    → Wrong Right Fault → OneFault Fault → (Right → (c d : ℕ) (x y : Bytes) → Done c x → Done d y → (c ≡ d) × (x ≡ y))
    → {s u : Said} {x y : Bytes} → Outcome room Right Fault Done before s x → Outcome room Right Fault Done before u y → (s ≡ u) × (x ≡ y)
outcome_one wrong one same (done {c = c} {after = x} r g d) (done {c = c'} {after = y} r' g' d') = let (e, f) = same g c c' x y d d' in (ap count e, f)
outcome_one wrong one same (done r g d) (short s) = absurd (omega arith)
outcome_one wrong one same (done r g d) (turned_away {n = n} {p = p} r' f) = absurd (wrong n p f g)
outcome_one wrong one same (short s) (done r g d) = absurd (omega arith)
outcome_one wrong one same (short s) (short s') = (refl, refl)
outcome_one wrong one same (short s) (turned_away r f) = absurd (omega arith)
outcome_one wrong one same (turned_away {n = n} {p = p} r f) (done r' g d) = absurd (wrong n p f g)
outcome_one wrong one same (turned_away r f) (short s) = absurd (omega arith)
outcome_one wrong one same (turned_away {n = n} {p = p} r f) (turned_away {n = m} {p = q} r' f') = let (e, g) = one n m p q f f' in (ap₂ refused e g, refl)

-- what is written of the same bytes is the same
pub written_one : {before front front' after after' : Bytes} → Written before front after → Written before front' after' → front ≡ front' → after ≡ after'
written_one {before} a b e = a.bytes ∙ ap (λ (f : Bytes). f ++ drop (length f) before) e ∙ sym b.bytes

-- a check says one thing
pub checked_one : {Right : Type 0} {Fault : ℕ → ℕ → Type 0} {size : ℕ} → Wrong Right Fault → OneFault Fault
    → {s u : Said} → Checked Right Fault size s → Checked Right Fault size u → s ≡ u
checked_one wrong one x y = (outcome_one wrong one (λ right c d x y e f. (e.0 ∙ sym f.0, e.1 ∙ sym f.1)) x y).0

-- the reason that a number stands for
reason_of : ℕ → Reason
reason_of n = get_or (ShortRoom ∷ RollLength ∷ NodeLabel ∷ SecondByte ∷ ParentField ∷ AnnotationLength ∷ FilterLength ∷ EntryMalformed ∷ EntryHeight ∷ AnnotationRecord ∷ PairOrder ∷ QueryTable ∷ TextLength ∷ NotInGrammar ∷ TooManyOpen ∷ TableTooLarge ∷ FileUnreadable ∷ TextTooLong ∷ TwoStars ∷ RulesMalformed ∷ ChildrenForbidden ∷ []) (pred n) ShortRoom

reason_of_lem : (r : Reason) → reason_of (number r) ≡ r
unfolding reason_of
reason_of_lem ShortRoom = refl
reason_of_lem RollLength = refl
reason_of_lem NodeLabel = refl
reason_of_lem SecondByte = refl
reason_of_lem ParentField = refl
reason_of_lem AnnotationLength = refl
reason_of_lem FilterLength = refl
reason_of_lem EntryMalformed = refl
reason_of_lem EntryHeight = refl
reason_of_lem AnnotationRecord = refl
reason_of_lem PairOrder = refl
reason_of_lem QueryTable = refl
reason_of_lem TextLength = refl
reason_of_lem NotInGrammar = refl
reason_of_lem TooManyOpen = refl
reason_of_lem TableTooLarge = refl
reason_of_lem FileUnreadable = refl
reason_of_lem TextTooLong = refl
reason_of_lem TwoStars = refl
reason_of_lem RulesMalformed = refl
reason_of_lem ChildrenForbidden = refl

-- no reason has the number 0: it would be the first one, which has 1
pub no_reason : (r : Reason) → number r ≢ 0
unfolding reason_of
no_reason r e = let first : r ≡ ShortRoom = sym (reason_of_lem r) ∙ ap reason_of e in omega (arith, ap number first)

-- "a reply carries either a count or a refusal's number with its place": two replies that say the same are equal
pub said_one : (r s : Result ℕ Refusal) → said r ≡ said s → r ≡ s
said_one (Ok n) (Ok m) e = ap Ok (cc)
said_one (Ok n) (Err b) e = let z : ◌≡◌ {A = ℕ} 0 1 = cc in absurd (omega arith)
said_one (Err a) (Ok m) e = let z : ◌≡◌ {A = ℕ} 0 1 = cc in absurd (omega arith)
said_one (Err a) (Err b) e =
    let numbers : number a.reason ≡ number b.reason = cc in
    let places : a.place ≡ b.place = cc in
    let reasons : a.reason ≡ b.reason = sym (reason_of_lem a.reason) ∙ ap reason_of numbers ∙ reason_of_lem b.reason in
    ap Err (λ i. record { reason = reasons i; place = places i })
