-- What becomes of two sets, word by word. Only inner contracts cite it. A call is of two words, and a word is what the call returns.
use Rattle.std.specs.Prelude.{ℕ, ◌≤◌, ◌<◌, ◌≡◌, ◌⊎◌, List, get_or}

-- each word comes from the two that stood in its place
abbrev pub Merged : (ℕ → ℕ → ℕ → Type 0) → List ℕ → List ℕ → List ℕ → Type 0
Merged how set other merged = (j : ℕ) → j < 64 → how (get_or set j 0) (get_or other j 0) (get_or merged j 0)

-- so does each, or it stands behind the first so many words and stays as it is
abbrev pub FrontMerged : (ℕ → ℕ → ℕ → Type 0) → ℕ → List ℕ → List ℕ → List ℕ → Type 0
FrontMerged how words set other merged =
    (j : ℕ) → j < 64
    → how (get_or set j 0) (get_or other j 0) (get_or merged j 0) ⊎ ((words ≤ j) × (get_or merged j 0 ≡ get_or set j 0))
