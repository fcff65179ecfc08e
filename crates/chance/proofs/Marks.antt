-- Marks: their states behave as those of the machine, a mark has its place, and the next mark is a good one.
use mathlib.Core.Path.{◌≡◌, refl, sym, ap, ◌∙◌}
use mathlib.Core.Bool.{Bool, true, false, cond, ◌&&◌}
use mathlib.Core.List.{List, [], ◌∷◌}
use Prim.Native.Nat.{ℕ, suc, ◌+◌, ◌-◌, ◌*◌, ◌/◌, ◌%◌, max, ◌≤◌, ◌<◌}
use native.Mathlib.Omega.{arith}
use lib.Dec.{leb, ltb}
use borrow.Author.Tests.{lt-ltb, le-leb, ltb-true, leb-true}
use Rattle.std.specs.Prelude.{Some, None}
use Rattle.std.proofs.lemmas.Bool.{and_parts}
use Rattle.fall.specs.declared.FallConfig.{FallConfig}
use Rattle.fall.specs.declared.FallDetector.{FallDetector}
use Rattle.fall.specs.declared.Pushed.{Pushed}
use Rattle.fall.specs.declared.Phase.{Phase}
use Rattle.fall.specs.declared.Phase.TheVariants.{Idle, Active, Burst, Settling, Refractory}
use Rattle.fall.specs.Fall.{end_of, step_of, pushed, silent, raised, moving}
use Rattle.chance.specs.Chance.{said, events_of, max_frames}
use Rattle.chance.specs.Marks.{phase_of, since_mark, quiet_mark, burst_mark, still_mark, end_mark, next_mark, reached, places, place_of, mark_at, at}
use Rattle.chance.specs.declared.Mark.{Mark}
use Rattle.chance.specs.declared.Mark.TheVariants.{Resting, Moving, Calming, Bursting, Lying, Waiting}

-- ---- what the machine never looks at
abbrev pub plain : Phase → Phase
plain Idle = Idle
plain (Active s q) = Active s q
plain (Burst a p) = Burst a 0
plain (Settling b p s) = Settling 0 0 s
plain (Refractory u) = Refractory u

-- two steps that say the same and lead to the same, but for that
pub record Like (x y : Pushed) : Type 0 where
  pub state : plain x.detector.phase ≡ plain y.detector.phase
  pub says : said x.suspicion ≡ said y.suspicion

burst-like : (x y : Bool) (a p w t : ℕ) → plain (cond x (Settling a 0 t) (cond y (moving t) (Burst a (max 0 w)))) ≡ plain (cond x (Settling a p t) (cond y (moving t) (Burst a (max p w))))
burst-like true y a p w t = refl
burst-like false true a p w t = refl
burst-like false false a p w t = refl

settling-like : (c : FallConfig) (x y : Bool) (b p s t : ℕ)
    → Like (cond x (silent c (moving t)) (cond y (raised c 0 0 s t) (silent c (Settling 0 0 s)))) (cond x (silent c (moving t)) (cond y (raised c b p s t) (silent c (Settling b p s))))
settling-like c true y b p s t = record { state = refl; says = refl }
settling-like c false true b p s t = record { state = refl; says = refl }
settling-like c false false b p s t = record { state = refl; says = refl }

alike : {x : Pushed} → Like x x
alike = record { state = refl; says = refl }

pub step-like : (c : FallConfig) (p : Phase) (w t : ℕ) → Like (step_of c (plain p) w t) (step_of c p w t)
unfolding step_of
step-like c Idle w t = alike
step-like c (Active s q) w t = alike
step-like c (Burst a p) w t = record { state = burst-like (leb w c.still_permille) (ltb c.settle (t - a)) a p w t; says = refl }
step-like c (Settling b p s) w t =
    settling-like c (leb c.active_permille w) (leb w c.still_permille && leb c.still_for (t - s)) b p s t
step-like c (Refractory u) w t = alike

-- a step leaves the settings
settling-kept : (c : FallConfig) (x y : Bool) (b p s t : ℕ)
    → (cond x (silent c (moving t)) (cond y (raised c b p s t) (silent c (Settling b p s)))).detector.config ≡ c
settling-kept c true y b p s t = refl
settling-kept c false true b p s t = refl
settling-kept c false false b p s t = refl

config-kept : (c : FallConfig) (p : Phase) (w t : ℕ) → (step_of c p w t).detector.config ≡ c
unfolding step_of
config-kept c Idle w t = refl
config-kept c (Active s q) w t = refl
config-kept c (Burst a p) w t = refl
config-kept c (Settling b p s) w t = settling-kept c (leb c.active_permille w) (leb w c.still_permille && leb c.still_for (t - s)) b p s t
config-kept c (Refractory u) w t = refl

pub kept : (c : FallConfig) (p : Phase) (w t : ℕ) → (step_of c p w t).detector ≡ at c (step_of c p w t).detector.phase
kept c p w t = λ i. at (config-kept c p w t i) (step_of c p w t).detector.phase

pub events-plain : (c : FallConfig) (p : Phase) (t spacing : ℕ) (ws : List ℕ) → events_of (at c (plain p)) t spacing ws ≡ events_of (at c p) t spacing ws
unfolding events_of pushed
events-plain c p t spacing [] = refl
events-plain c p t spacing (w ∷ ws) =
    let l = step-like c p w t in
    let rest : FallDetector → ℕ = λ d. events_of d (t + spacing) spacing ws in
    let x : Phase = (step_of c (plain p) w t).detector.phase in
    let y : Phase = (step_of c p w t).detector.phase in
    let later : rest (at c x) ≡ rest (at c y) =
    sym (events-plain c x (t + spacing) spacing ws) ∙ ap (λ (z : Phase). rest (at c z)) l.state ∙ events-plain c y (t + spacing) spacing ws in
    rw (l.says, ap rest (kept c (plain p) w t) ∙ later ∙ sym (ap rest (kept c p w t)))

-- ---- the next mark stands for the next state
module _ (c : FallConfig) (s j w : ℕ) where
  -- where the mark says when the motion began and since when it is quiet
  active-stands : (m : Mark) (a q : ℕ) (x y z : Bool) → burst_mark m j ≡ j → since_mark m j ≡ a → quiet_mark m j ≡ q
      → phase_of c s (next_mark m j (cond x (Burst (j * s) w) (cond y (cond z Idle (Active (a * s) (Some (q * s)))) (moving (a * s)))))
      ≡ plain (cond x (Burst (j * s) w) (cond y (cond z Idle (Active (a * s) (Some (q * s)))) (moving (a * s))))
  unfolding phase_of next_mark
  active-stands m a q true y z e f g = rw e
  active-stands m a q false true true e f g = refl
  active-stands m a q false true false e f g = rw (f, g)
  active-stands m a q false false z e f g = rw f

  resting-stands : (x : Bool) → phase_of c s (next_mark Resting j (cond x (moving (j * s)) Idle)) ≡ plain (cond x (moving (j * s)) Idle)
  unfolding phase_of next_mark
  resting-stands true = refl
  resting-stands false = refl

  burst-stands : (b : ℕ) (x y : Bool) → phase_of c s (next_mark (Bursting b) j (cond x (Settling (b * s) 0 (j * s)) (cond y (moving (j * s)) (Burst (b * s) (max 0 w)))))
      ≡ plain (cond x (Settling (b * s) 0 (j * s)) (cond y (moving (j * s)) (Burst (b * s) (max 0 w))))
  unfolding phase_of next_mark
  burst-stands b true y = refl
  burst-stands b false true = refl
  burst-stands b false false = refl

  lying : (l : ℕ) (x y : Bool) → Pushed
  lying l x y = cond x (silent c (moving (j * s))) (cond y (raised c 0 0 (l * s) (j * s)) (silent c (Settling 0 0 (l * s))))

  lying-stands : (l : ℕ) (x y : Bool) → phase_of c s (next_mark (Lying l) j (lying l x y).detector.phase) ≡ plain (lying l x y).detector.phase
  unfolding phase_of next_mark lying
  lying-stands l true y = refl
  lying-stands l false true = refl
  lying-stands l false false = refl

  waiting-stands : (e : ℕ) (x : Bool) → phase_of c s (next_mark (Waiting e) j (cond x Idle (Refractory (end_of c (e * s))))) ≡ plain (cond x Idle (Refractory (end_of c (e * s))))
  unfolding phase_of next_mark
  waiting-stands e true = refl
  waiting-stands e false = refl

  pub stands : (m : Mark) → phase_of c s (next_mark m j (step_of c (phase_of c s m) w (j * s)).detector.phase) ≡ plain (step_of c (phase_of c s m) w (j * s)).detector.phase
  unfolding phase_of step_of lying
  stands Resting = resting-stands (leb c.active_permille w)
  stands (Moving a) =
      active-stands (Moving a) a j (leb c.burst_permille w && leb c.min_active (j * s - a * s)) (leb w c.still_permille) (leb c.quiet_grace (j * s - j * s)) refl refl refl
  stands (Calming a q) =
      active-stands (Calming a q) a q (leb c.burst_permille w && leb c.min_active (j * s - a * s)) (leb w c.still_permille) (leb c.quiet_grace (j * s - q * s)) refl refl refl
  stands (Bursting b) = burst-stands b (leb w c.still_permille) (ltb c.settle (j * s - b * s))
  stands (Lying l) = lying-stands l (leb c.active_permille w) (leb w c.still_permille && leb c.still_for (j * s - l * s))
  stands (Waiting e) = waiting-stands e (leb (end_of c (e * s)) (j * s))

-- ---- marks that frame j can meet
unfoldable pub Good : (j : ℕ) → Mark → Type 0
Good j Resting = Unit {0}
Good j (Moving a) = a < j
Good j (Calming a q) = (a ≤ q) × (q < j)
Good j (Bursting b) = b < j
Good j (Lying l) = l < j
Good j (Waiting e) = e < j

pub good : (j : ℕ) (m : Mark) → reached j m ≡ true → Good j m
unfolding Good reached
good j Resting e = tt
good j (Moving a) e = ltb-true a j e
good j (Calming a q) e = let d = and_parts _ _ e in (leb-true a q d.0, ltb-true q j d.1)
good j (Bursting b) e = ltb-true b j e
good j (Lying l) e = ltb-true l j e
good j (Waiting e) d = ltb-true e j d

pub met : (j : ℕ) (m : Mark) → Good j m → reached j m ≡ true
unfolding Good reached
met j Resting g = refl
met j (Moving a) g = lt-ltb a j g
met j (Calming a q) g = rw (le-leb a q g.0, lt-ltb q j g.1)
met j (Bursting b) g = lt-ltb b j g
met j (Lying l) g = lt-ltb l j g
met j (Waiting e) g = lt-ltb e j g

-- a later frame can meet it too
pub later : (i j : ℕ) (m : Mark) → i ≤ j → Good i m → Good j m
unfolding Good
later i j Resting h g = tt
later i j (Moving a) h g = omega arith
later i j (Calming a q) h g = (g.0, omega (arith, g.1))
later i j (Bursting b) h g = omega arith
later i j (Lying l) h g = omega arith
later i j (Waiting e) h g = omega arith

pub met_later : (i j : ℕ) (m : Mark) → i ≤ j → reached i m ≡ true → reached j m ≡ true
met_later i j m h e = met j m (later i j m h (good i m e))

-- the next frame can meet the next mark
module _ (j : ℕ) where
  record Parts (m : Mark) : Type 0 where
    since : since_mark m j ≤ quiet_mark m j
    quiet : quiet_mark m j < suc j
    burst : burst_mark m j < suc j
    still : still_mark m j < suc j
    end : end_mark m j < suc j

  parts : (m : Mark) → Good j m → Parts m
  unfolding Good
  parts Resting g = record { since = omega arith; quiet = omega arith; burst = omega arith; still = omega arith; end = omega arith }
  parts (Moving a) g = record { since = omega arith; quiet = omega arith; burst = omega arith; still = omega arith; end = omega arith }
  parts (Calming a q) g = record { since = g.0; quiet = omega (arith, g.1); burst = omega arith; still = omega arith; end = omega arith }
  parts (Bursting b) g = record { since = omega arith; quiet = omega arith; burst = omega arith; still = omega arith; end = omega arith }
  parts (Lying l) g = record { since = omega arith; quiet = omega arith; burst = omega arith; still = omega arith; end = omega arith }
  parts (Waiting e) g = record { since = omega arith; quiet = omega arith; burst = omega arith; still = omega arith; end = omega arith }

  pub next-good : (m : Mark) (p : Phase) → Good j m → Good (suc j) (next_mark m j p)
  unfolding Good next_mark
  next-good m Idle g = tt
  next-good m (Active s None) g = let p = parts m g in omega (arith, p.since, p.quiet)
  next-good m (Active s (Some q)) g = let p = parts m g in (p.since, p.quiet)
  next-good m (Burst a p) g = (parts m g).burst
  next-good m (Settling b p s) g = (parts m g).still
  next-good m (Refractory u) g = (parts m g).end

pub next-met : (j : ℕ) (m : Mark) (p : Phase) → reached j m ≡ true → reached (suc j) (next_mark m j p) ≡ true
next-met j m p e = met (suc j) (next_mark m j p) (next-good j m p (good j m e))

pub met_next : (j : ℕ) (m : Mark) (p : Phase) → j < max_frames → reached j m ≡ true → reached max_frames (next_mark m j p) ≡ true
met_next j m p l e = met max_frames (next_mark m j p) (later (suc j) max_frames (next_mark m j p) (omega arith) (next-good j m p (good j m e)))

-- ---- places
pub place-small : (m : Mark) → Good max_frames m → place_of m < places
unfolding Good place_of
place-small Resting g = omega arith
place-small (Moving a) g = omega arith
place-small (Calming a q) g = omega (arith, g.0, g.1)
place-small (Bursting b) g = omega arith
place-small (Lying l) g = omega arith
place-small (Waiting e) g = omega arith

row_of : (h l : ℕ) → l < 24 → (h * 24 + l) / 24 ≡ h
row_of h l b = omega arith

column-of : (h l : ℕ) → l < 24 → (h * 24 + l) % 24 ≡ l
column-of h l b = omega arith

pub at_place : (m : Mark) → Good max_frames m → mark_at (place_of m) ≡ m
unfolding Good place_of mark_at
at_place Resting g = refl
at_place (Moving a) g = rw (row_of 24 a g, column-of 24 a g)
at_place (Calming a q) g = let h : a < 24 = omega (arith, g.0, g.1) in rw (row_of a q g.1, column-of a q g.1, lt-ltb a 24 h)
at_place (Bursting b) g = rw (row_of 25 b g, column-of 25 b g)
at_place (Lying l) g = rw (row_of 26 l g, column-of 26 l g)
at_place (Waiting e) g = rw (row_of 27 e g, column-of 27 e g)
