-- What a call says, for callers in other languages: two numbers, the one that it returns and the one that it writes where the caller lends
-- a place for it.
use Rattle.std.specs.Prelude.{ℕ, zero, suc, ◌≡◌}
use Rattle.reply.specs.Reply.{Said, count, refused}

-- 0 and a count, or a refusal's number and its place: any two numbers say one thing.
abbrev pub heard : ℕ → ℕ → Said
heard zero n = count n
heard (suc n) p = refused (suc n) p

-- What is heard is a reply that fits the promise.
pub record Tells (Promise : Said → Type 0) (returned told : ℕ) : Type 0 where
  pub said : Said
  pub promised : Promise said
  pub numbers : heard returned told ≡ said
