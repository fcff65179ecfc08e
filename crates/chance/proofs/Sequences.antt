-- All sequences of n choices: how many they are, that each has n values, how many events n frames can make, and counting by the first choice.
use mathlib.Core.Path.{◌≡◌, refl, sym, ap, ◌∙◌}
use mathlib.Core.Bool.{Bool, true, false, cond, ◌&&◌}
use mathlib.Core.List.{List, [], ◌∷◌, map}
use Prim.Native.Nat.{ℕ, zero, suc, ◌+◌, ◌-◌, ◌*◌, ◌^◌, max, ◌≤◌, ◌<◌}
use native.Mathlib.Nat.{pow-succ', pow-zero, pow-le-pow_left, pow-le-pow_right}
use native.Mathlib.Omega.{arith}
use lib.Dec.{leb, ltb}
use lib.ListN.{length, get_or, length-map}
use Rattle.num.specs.Lists.{having}
use Rattle.num.specs.Sum.{total}
use Rattle.num.proofs.Map.{map-agree}
use Rattle.num.proofs.Partition.{All, all_map, all-flat, all_of, length-flat, having-le, having-none, having-flat, having-map, having-raised}
use Rattle.std.specs.Prelude.{Some}
use Rattle.fall.specs.declared.FallConfig.{FallConfig}
use Rattle.fall.specs.declared.FallDetector.{FallDetector}
use Rattle.fall.specs.declared.Pushed.{Pushed}
use Rattle.fall.specs.declared.Phase.{Phase}
use Rattle.fall.specs.declared.Phase.TheVariants.{Idle, Active, Burst, Settling, Refractory}
use Rattle.fall.specs.Fall.{step_of, pushed, silent, raised, moving, quiet_from}
use Rattle.chance.specs.Chance.{sequences, said, events_of, max_frames, max_choices}
use Rattle.chance.specs.Marks.{at, layers, most_ways}
use Rattle.chance.proofs.Marks.{kept}

pub length-sequences : (choices : List ℕ) (n : ℕ) → length (sequences choices n) ≡ length choices ^ n
unfolding sequences
length-sequences choices zero = sym (pow-zero (length choices))
length-sequences choices (suc n) =
    length-flat (λ (w : ℕ). map (λ (rest : List ℕ). w ∷ rest) (sequences choices n)) (length choices ^ n)
    (λ w. length-map (sequences choices n) (λ (rest : List ℕ). w ∷ rest) ∙ length-sequences choices n) choices
    ∙ sym (pow-succ' (length choices) n)

pub all-long : (choices : List ℕ) (n : ℕ) → All (λ (s : List ℕ). length s ≡ n) (sequences choices n)
unfolding sequences
all-long choices zero = (refl, tt)
all-long choices (suc n) =
    all-flat (λ (s : List ℕ). length s ≡ suc n) (λ (w : ℕ). map (λ (rest : List ℕ). w ∷ rest) (sequences choices n))
    (λ w. all_map (λ (s : List ℕ). length s ≡ suc n) (λ (rest : List ℕ). w ∷ rest) (λ (s : List ℕ). length s ≡ n) (λ s e. ap suc e) (sequences choices n) (all-long choices n)) choices

-- ---- how many frames an event takes: how near a state is to the next one
rank : Phase → ℕ
rank Idle = 1
rank (Active s q) = 2
rank (Burst a p) = 3
rank (Settling b p s) = 4
rank (Refractory u) = 0

Nearer : ℕ → Pushed → Type 0
Nearer r st = rank st.detector.phase + 5 * said st.suspicion ≤ r + 1

two_ways : (r : ℕ) (x : Bool) (p q : Phase) → rank p ≤ r + 1 → rank q ≤ r + 1 → rank (cond x p q) ≤ r + 1
two_ways r true p q h l = h
two_ways r false p q h l = l

settling-near : (c : FallConfig) (x y : Bool) (b p s t : ℕ) → Nearer 4 (cond x (silent c (moving t)) (cond y (raised c b p s t) (silent c (Settling b p s))))
unfolding Nearer rank
settling-near c true y b p s t = omega arith
settling-near c false true b p s t = omega arith
settling-near c false false b p s t = omega arith

said-nothing : (r : ℕ) (c : FallConfig) (p : Phase) → rank p ≤ r + 1 → Nearer r (silent c p)
unfolding Nearer
said-nothing r c p h = omega arith

nearer : (c : FallConfig) (p : Phase) (w t : ℕ) → Nearer (rank p) (step_of c p w t)
unfolding step_of rank
nearer c Idle w t = said-nothing 1 c _ (two_ways 1 (leb c.active_permille w) (moving t) Idle (omega arith) (omega arith))
nearer c (Active s q) w t =
    said-nothing 2 c _ (two_ways 2 (leb c.burst_permille w && leb c.min_active (t - s)) (Burst t w) _ (omega arith)
    (two_ways 2 (leb w c.still_permille) _ (moving s)
    (two_ways 2 (leb c.quiet_grace (t - quiet_from q t)) Idle (Active s (Some (quiet_from q t))) (omega arith) (omega arith)) (omega arith)))
nearer c (Burst a p) w t =
    said-nothing 3 c _ (two_ways 3 (leb w c.still_permille) (Settling a p t) _ (omega arith)
    (two_ways 3 (ltb c.settle (t - a)) (moving t) (Burst a (max p w)) (omega arith) (omega arith)))
nearer c (Settling b p s) w t = settling-near c (leb c.active_permille w) (leb w c.still_permille && leb c.still_for (t - s)) b p s t
nearer c (Refractory u) w t = said-nothing 0 c _ (two_ways 0 (leb u t) Idle (Refractory u) (omega arith) (omega arith))

-- each frame brings the next event one step nearer at most, and an event takes it back by five
by_rank : (c : FallConfig) (p : Phase) (t spacing : ℕ) (ws : List ℕ) → 5 * events_of (at c p) t spacing ws ≤ length ws + rank p
unfolding events_of pushed Nearer
by_rank c p t spacing [] = omega arith
by_rank c p t spacing (w ∷ ws) =
    let q = (step_of c p w t).detector.phase in
    let later : 5 * events_of (step_of c p w t).detector (t + spacing) spacing ws ≤ length ws + rank q =
    rw (kept c p w t) (by_rank c q (t + spacing) spacing ws) in
    omega (arith, nearer c p w t, later)

pub events-take-frames : (c : FallConfig) (t spacing : ℕ) (ws : List ℕ) → 5 * events_of (at c Idle) t spacing ws ≤ suc (length ws)
unfolding rank
events-take-frames c t spacing ws = let h = by_rank c Idle t spacing ws in omega arith

-- ---- what n frames make at most
module _ (choices : List ℕ) (n : ℕ) (l : n ≤ max_frames) where
  -- as many events as there are layers, or more, come up from no new machine
  pub few : (c : FallConfig) (t spacing : ℕ) → All (λ (s : List ℕ). events_of (at c Idle) t spacing s < layers) (sequences choices n)
  few c t spacing =
      all_of (λ (s : List ℕ). events_of (at c Idle) t spacing s < layers) (λ (s : List ℕ). length s ≡ n)
      (λ s e. let f = events-take-frames c t spacing s in omega arith) (sequences choices n) (all-long choices n)

  pub none_above : (c : FallConfig) (t spacing k : ℕ) → layers ≤ k → having (events_of (at c Idle) t spacing) (sequences choices n) k ≡ 0
  none_above c t spacing k h =
      having-none (events_of (at c Idle) t spacing) k (sequences choices n)
      (all_of (λ (s : List ℕ). events_of (at c Idle) t spacing s ≡ k → ⊥) (λ (s : List ℕ). events_of (at c Idle) t spacing s < layers) (λ s f q. omega arith) (sequences choices n) (few c t spacing))

  -- no count is above four to the power 24
  pub ways-small : length choices ≤ max_choices → (value : List ℕ → ℕ) (k : ℕ) → having value (sequences choices n) k ≤ most_ways
  ways-small h value k =
      let a = having-le value k (sequences choices n) in
      let b = length-sequences choices n in
      let e : length choices ^ n ≤ 4 ^ n = pow-le-pow_left h n in
      let f : 4 ^ n ≤ 4 ^ 24 = pow-le-pow_right {n = 4} (omega arith) l in
      let g : 4 ^ 24 ≡ most_ways = refl in
      omega arith

-- by the first frame: what it says, and the rest makes
pub by_first : (d : FallDetector) (choices : List ℕ) (spacing t n k : ℕ)
    → having (events_of d t spacing) (sequences choices (suc n)) k
    ≡ total (map (λ (w : ℕ). cond (ltb k (said (pushed d w t).suspicion)) 0 (having (events_of (pushed d w t).detector (t + spacing) spacing) (sequences choices n) (k - said (pushed d w t).suspicion))) choices)
unfolding sequences events_of
by_first d choices spacing t n k =
    having-flat (events_of d t spacing) (λ (w : ℕ). map (λ (rest : List ℕ). w ∷ rest) (sequences choices n)) k choices
    ∙ ap total (map-agree _ _ choices (λ i l. first (get_or choices i 0)))
  where
    first : (w : ℕ) → having (events_of d t spacing) (map (λ (rest : List ℕ). w ∷ rest) (sequences choices n)) k
        ≡ cond (ltb k (said (pushed d w t).suspicion)) 0 (having (events_of (pushed d w t).detector (t + spacing) spacing) (sequences choices n) (k - said (pushed d w t).suspicion))
    first w =
        having-map (λ (rest : List ℕ). w ∷ rest) (events_of d t spacing) k (sequences choices n)
        ∙ having-raised (said (pushed d w t).suspicion) (events_of (pushed d w t).detector (t + spacing) spacing) k (sequences choices n)
