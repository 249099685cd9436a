-- Of the kinds of one sort, the one that is left when the others are named. Assumes nothing.
use Prim.Native.Nat.{◌≤◌}
use native.Mathlib.Omega.{arith}
use mathlib.Core.Path.{◌≡◌, refl}
use mathlib.Core.Logic.{◌≢◌}
use Rattle.tables.specs.declared.kinds.Kind.{Kind}
use Rattle.tables.specs.declared.kinds.Kind.TheVariants.{Itself, Child, Parent, Next, Previous, Stay, Then, Either, Star, Labelled, Leads, Always, Never, Not, And, Or}
use Rattle.tables.specs.Kind.{number}

-- of a path's, self
pub itself_left : (k : Kind) → number k ≤ 9 → k ≢ Child → k ≢ Parent → k ≢ Next → k ≢ Previous → k ≢ Stay → k ≢ Then → k ≢ Either → k ≢ Star
    → number k ≡ 1
itself_left Itself l a b c d e f g h = refl
itself_left Child l a b c d e f g h = absurd (a refl)
itself_left Parent l a b c d e f g h = absurd (b refl)
itself_left Next l a b c d e f g h = absurd (c refl)
itself_left Previous l a b c d e f g h = absurd (d refl)
itself_left Stay l a b c d e f g h = absurd (e refl)
itself_left Then l a b c d e f g h = absurd (f refl)
itself_left Either l a b c d e f g h = absurd (g refl)
itself_left Star l a b c d e f g h = absurd (h refl)
itself_left Labelled l a b c d e f g h = absurd (omega arith)
itself_left Leads l a b c d e f g h = absurd (omega arith)
itself_left Always l a b c d e f g h = absurd (omega arith)
itself_left Never l a b c d e f g h = absurd (omega arith)
itself_left Not l a b c d e f g h = absurd (omega arith)
itself_left And l a b c d e f g h = absurd (omega arith)
itself_left Or l a b c d e f g h = absurd (omega arith)

-- of a filter's, never
pub never_left : (k : Kind) → 16 ≤ number k → k ≢ Labelled → k ≢ Leads → k ≢ Always → k ≢ Not → k ≢ And → k ≢ Or → number k ≡ 19
never_left Itself l a b c d e f = absurd (omega arith)
never_left Child l a b c d e f = absurd (omega arith)
never_left Parent l a b c d e f = absurd (omega arith)
never_left Next l a b c d e f = absurd (omega arith)
never_left Previous l a b c d e f = absurd (omega arith)
never_left Stay l a b c d e f = absurd (omega arith)
never_left Then l a b c d e f = absurd (omega arith)
never_left Either l a b c d e f = absurd (omega arith)
never_left Star l a b c d e f = absurd (omega arith)
never_left Labelled l a b c d e f = absurd (a refl)
never_left Leads l a b c d e f = absurd (b refl)
never_left Always l a b c d e f = absurd (c refl)
never_left Never l a b c d e f = refl
never_left Not l a b c d e f = absurd (d refl)
never_left And l a b c d e f = absurd (e refl)
never_left Or l a b c d e f = absurd (f refl)
