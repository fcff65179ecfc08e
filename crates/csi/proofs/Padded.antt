-- An array whose first amplitudes are xs, with 0 behind them: its features, and how it is filled. Assumes nothing.
use mathlib.Core.Path.{◌≡◌, refl, ◌∙◌}
use mathlib.Core.List.{List, ◌++◌, map, map-append}
use Prim.Native.Nat.{ℕ, suc, ◌+◌, ◌-◌, ◌≤◌, ◌<◌}
use native.Mathlib.Numerals.{add-one}
use native.Mathlib.Omega.{arith}
use lib.ListN.{length, get_or, take, set, replicate, length-map}
use lib.Seq.{take_at, take_all, take-suc, set_at, append_snoc, length-take-le}
use Rattle.csi.specs.Features.{describe, described_as}
use Rattle.csi.specs.Layout.{max_subcarriers}

pub described-is : (amplitude xs : List ℕ) (n : ℕ) → n ≡ length xs → amplitude ≡ xs ++ replicate (max_subcarriers - length xs) 0 → described_as amplitude n ≡ describe xs
unfolding describe
described-is amplitude xs n en ea =
    rw (en, ea, take_at xs (replicate (max_subcarriers - length xs) 0) (length xs) refl)

-- one more amplitude at the front of an array that is filled with f of each of xs
pub padded-next : (f : ℕ → ℕ) (xs out : List ℕ) (N k v : ℕ) → k < length xs → length xs ≤ N → v ≡ f (get_or xs k 0)
    → out ≡ map f (take k xs) ++ replicate (N - k) 0 → set out k v ≡ map f (take (k + 1) xs) ++ replicate (N - (k + 1)) 0
padded-next f xs out N k v h l ev eo =
    let front : length (map f (take k xs)) ≡ k = length-map (take k xs) f ∙ length-take-le k xs (omega arith) in
    let more : N - k ≡ suc (N - (k + 1)) = omega arith in
    rw (eo, more, set_at (map f (take k xs)) 0 (replicate (N - (k + 1)) 0) v k front, ev, add-one, take-suc xs k 0 h, map-append, append_snoc)

pub padded-all : (f : ℕ → ℕ) (xs out : List ℕ) (N k : ℕ) → length xs ≤ k → k ≤ length xs → out ≡ map f (take k xs) ++ replicate (N - k) 0
    → out ≡ map f xs ++ replicate (N - length (map f xs)) 0
padded-all f xs out N k h l eo =
    let e : k ≡ length (map f xs) = omega (arith, length-map xs f) in
    eo ∙ rw (take_all k xs h, e)
