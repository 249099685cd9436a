-- A star by rounds: each goes on from what is new, until nothing is, and what was reached is kept. Assumes nothing.
use Prim.Native.Nat.{ℕ, ◌+◌, ◌-◌, ◌*◌, ◌≤◌, ◌<◌}
use native.Mathlib.Decide.{dec_lt}
use native.Mathlib.Omega.{arith}
use mathlib.Core.Logic.{◌↔◌, ◌⊎◌, inl, inr, ⊎_elim, ⊎_map}
use mathlib.Core.List.{List, ◌∷◌}
use lib.Dec.{T}
use lib.ListN.{length}
use Rattle.query.specs.Meaning.{Star, stop}
use Rattle.query.proofs.Closure.{star_keeps, star_more}
use Rattle.sets.specs.Sets.{In, Holds, Inside}
use Rattle.sets.proofs.Size.{dec_in, size_of, size_most, no_smaller, grown}
use Rattle.rules.specs.Language.{Expression, star, Word}
use Rattle.matching.specs.Spans.{Spans}
use Rattle.matching.specs.Settled.{Places, members, and_those, Kept, Settled, gone_on, Passed}
use Rattle.matching.proofs.Spanning.{spans_star, spans_stay}
use Rattle.matching.proofs.Settling.{in_members, in_those, widen}

-- it falls with every round: what was reached grows, or nothing is new
abbrev pub left : List ℕ → List ℕ → ℕ
left reached fresh = 4097 * (4096 - size_of reached) + size_of fresh

-- where a round had something to go on from, less is left
pub round_less : {reached fresh rest more : List ℕ} → ((k : ℕ) → In rest k → ¬ In reached k) → Holds (λ k. In reached k ⊎ In rest k) more
    → Inside 4096 rest → Inside 4096 fresh → ¬ ((k : ℕ) → ¬ In fresh k) → left more rest < left reached fresh
round_less {reached} {fresh} {rest} {more} new all low low_fresh some = falls (dec_lt (size_of reached) (size_of more))
  where
    -- what is new makes more of what was reached
    greater : (k : ℕ) → In rest k → size_of reached < size_of more
    greater k x = grown (λ j y. (all.exact j).1 (inl y)) (λ same. new k x (same k (low k x) ((all.exact k).1 (inr x))))

    falls : Dec (size_of reached < size_of more) → left more rest < left reached fresh
    falls (yes l) = omega (arith, size_most more, size_most rest)
    falls (no same) =
        let no_less = no_smaller {a = reached} {r = more} (λ k x. (all.exact k).1 (inl x)) in
        let fewer = grown {a = rest} {r = fresh} (λ k x. absurd (same (greater k x)))
        (λ again. some (λ k x. same (greater k (again k (low_fresh k x) x)))) in
        omega arith

module _ (a : Expression) (w : Word) where
  -- The expression was asked of all that was reached, but for what is new.
  pub record Ready (kept : Kept) (reached fresh : List ℕ) : Type 0 where
    pub asked : Places
    pub settled : Settled w a kept asked (members reached)
    pub all : (k : ℕ) → In reached k → T (asked k) ⊎ In fresh k

  -- Between two rounds of a star that began with some new places: `found` is what it has come to from them, `fresh` what of it is new.
  pub record Rounds (kept₀ : Kept) (reached₀ first : List ℕ) (kept : Kept) (reached found fresh : List ℕ) : Type 0 where
    pub among : (k : ℕ) → In fresh k → In found k
    pub start : (k : ℕ) → In first k → In found k
    pub from : (k : ℕ) → In found k → (i : ℕ) × In first i × Star (Spans a w) i k
    pub together : (k : ℕ) → In reached k ↔ (In reached₀ k ⊎ In found k)
    pub ready : Ready kept₀ reached₀ first → Ready kept reached fresh

module _ {a : Expression} {w : Word} where
  module _ {kept₀ : Kept} {reached₀ first : List ℕ} where
    -- before the first round all is new
    pub first_round : ((k : ℕ) → In first k → In reached₀ k) → Rounds a w kept₀ reached₀ first kept₀ reached₀ first first
    first_round part = record {
      among = λ k x. x;
      start = λ k x. x;
      from = λ k x. (k, x, stop);
      together = λ k. (inl, ⊎_elim (λ x. x) (part k));
      ready = λ r. r;
    }

    module _ {kept : Kept} {reached found fresh : List ℕ} (so_far : Rounds a w kept₀ reached₀ first kept reached found fresh) where
      -- none but places in the word are found
      pub found_inside : Inside (length w + 1) first → Inside (length w + 1) found
      found_inside inside k x =
          let (i, y, s) = so_far.from k x in
          star_keeps (λ j. j < length w + 1) spans_stay (inside i y) s

      -- one more round: what the expression leads to from what is new, less what was reached, is new, and is reached and found
      pub next_round : {kept' : Kept} {led rest more found' : List ℕ} → Passed a w kept fresh kept' led
          → Holds (λ k. In led k × ¬ In reached k) rest → Holds (λ k. In reached k ⊎ In rest k) more
          → Holds (λ k. In found k ⊎ In rest k) found' → Rounds a w kept₀ reached₀ first kept' more found' rest
      next_round {kept'} {led} {rest} {more} {found'} passed new all with_new = record {
        among = λ k x. (with_new.exact k).1 (inr x);
        start = λ k x. (with_new.exact k).1 (inl (so_far.start k x));
        from = λ k x. ⊎_elim (so_far.from k) (further k) ((with_new.exact k).0 x);
        together = λ k. (λ x. there k ((all.exact k).0 x), λ x. back k x);
        ready = λ r. on (so_far.ready r);
      }
        where
          further : (k : ℕ) → In rest k → (i : ℕ) × In first i × Star (Spans a w) i k
          further k x =
              let (m, y, r) = passed.led k ((new.exact k).0 x).0 in
              let (i, z, s) = so_far.from m (so_far.among m y) in
              (i, z, star_more s r)

          there : (k : ℕ) → In reached k ⊎ In rest k → In reached₀ k ⊎ In found' k
          there k = ⊎_elim (λ x. ⊎_map (λ y. y) (λ y. (with_new.exact k).1 (inl y)) ((so_far.together k).0 x)) (λ x. inr ((with_new.exact k).1 (inr x)))

          back : (k : ℕ) → In reached₀ k ⊎ In found' k → In more k
          back k =
              ⊎_elim (λ x. (all.exact k).1 (inl ((so_far.together k).1 (inl x))))
              (λ x. (all.exact k).1 (⊎_map (λ y. (so_far.together k).1 (inr y)) (λ y. y) ((with_new.exact k).0 x)))

          -- what it led to was reached before or is new
          found_now : (k : ℕ) → T (and_those (members reached) led k) → Dec (In reached k) → In more k
          found_now k x (yes y) = (all.exact k).1 (inl y)
          found_now k x (no out) =
              (all.exact k).1 (inr (⊎_elim (λ y. absurd (out ((in_members reached k).0 y))) (λ y. (new.exact k).1 (y, out))
              ((in_those (members reached) led k).0 x)))

          on : Ready a w kept reached fresh → Ready a w kept' more rest
          on r = record {
            asked = and_those r.asked fresh;
            settled = widen (λ k y. y) (λ k y. (in_members more k).1 (found_now k y (dec_in reached k))) (passed.settled r.asked (members reached) r.settled);
            all = λ k x. ⊎_map (λ y. (in_those r.asked fresh k).1 (r.all k y)) (λ y. y) ((all.exact k).0 x);
          }

  -- When nothing is new, the star is settled with all that was reached, what was kept before and what of the set was not among it.
  pub last_round : {kept₀ kept : Kept} {before reached₀ reached set first found fresh : List ℕ}
      → Holds (λ k. In set k × ¬ In before k) first → Holds (λ k. In before k ⊎ In first k) reached₀
      → Rounds a w kept₀ reached₀ first kept reached found fresh → ((k : ℕ) → ¬ In fresh k) → Inside (length w + 1) set
      → Passed (star a) w (before ∷ kept₀) set (reached ∷ kept) found
  last_round {kept₀} {kept} {before} {reached₀} {reached} {set} {first} {found} {fresh} taken added rounds none places = record {
    led = λ q x. let (i, y, s) = rounds.from q x in (i, ((taken.exact i).0 y).0, (spans_star i q).1 (s, in_word q x));
    settled = more;
  }
    where
      in_word : (q : ℕ) → In found q → q ≤ length w
      in_word q x = omega (arith, found_inside rounds (λ k y. places k ((taken.exact k).0 y).0) q x)

      -- what was kept before was gone on from
      begins : Settled w a kept₀ (members before) (members before) → Ready a w kept₀ reached₀ first
      begins s = record {
        asked = members before;
        settled = widen (λ k y. y) (λ k y. (in_members reached₀ k).1 ((added.exact k).1 (inl ((in_members before k).0 y)))) s;
        all = λ k x. ⊎_map (in_members before k).1 (λ y. y) ((added.exact k).0 x);
      }

      -- all that was reached was gone on from
      ends : Ready a w kept reached fresh → Settled w a kept (members reached) (members reached)
      ends r =
          widen (λ k y. ⊎_elim (λ z. z) (λ z. absurd (none k z)) (r.all k ((in_members reached k).0 y))) (λ k y. y) r.settled

      of_set : (p : ℕ) → In set p → Dec (In before p) → In reached p
      of_set p x (yes y) = (rounds.together p).1 (inl ((added.exact p).1 (inl y)))
      of_set p x (no out) = (rounds.together p).1 (inr (rounds.start p ((taken.exact p).1 (x, out))))

      kept_on : (p : ℕ) → In before p → In reached p
      kept_on p x = (rounds.together p).1 (inl ((added.exact p).1 (inl x)))

      kept_or_found : (q : ℕ) → In reached q → In before q ⊎ In found q
      kept_or_found q x =
          ⊎_elim (λ y. ⊎_map (λ z. z) (rounds.start q) ((added.exact q).0 y)) inr ((rounds.together q).0 x)

      more : (A G : Places) → Settled w (star a) (before ∷ kept₀) A G → Settled w (star a) (reached ∷ kept) (and_those A set) (and_those G found)
      more A G (gone_on asked seen s) =
          gone_on (λ p y. ⊎_elim (λ z. kept_on p (asked p z)) (λ z. of_set p z (dec_in before p)) ((in_those A set p).0 y))
          (λ q y. (in_those G found q).1 (⊎_map (seen q) (λ z. z) (kept_or_found q y)))
          (ends (rounds.ready (begins s)))
