-- A window has no order (docs/SPEC.md, under this title): a detector tells the same wander in whatever order its last w frames came. Its verdict may
-- differ, since it remembers earlier motion. Assumes nothing.
use Rattle.std.specs.Prelude.{◌≡◌, List, [], ◌∷◌, map, ℕ, ◌≤◌, length, take}
use Rattle.window.specs.Window.{width, Long}
use Rattle.window.specs.Order.{Reordered, HasNoOrder}
use Rattle.detector.specs.Detector.{Kind, Detector, new_detector, restart, Valid, Pushes, push_frame}
use Rattle.detector.specs.declared.Limits.{Limits}
use Rattle.detector.specs.declared.State.{State}
use Rattle.detector.specs.declared.Verdict.{Verdict}

-- a frame as it is pushed: by which limits, and when
pub record Push : Type 0 where
  pub frame : List ℕ
  pub lim : Limits
  pub now : ℕ

abbrev pub frames_of : List Push → List (List ℕ)
frames_of ps = map (λ (p : Push). p.frame) ps

-- one push after the other
unfoldable pub push_all : (List (List ℕ) → ℕ) → (w : ℕ) → Detector → List Push → Detector
push_all wander_of w d [] = d
push_all wander_of w d (p ∷ ps) = push_all wander_of w (push_frame wander_of p.lim w d p.frame p.now) ps

-- the frames of a detector's window have one length
abbrev pub Level : Detector → Type 0
Level d = Long (width d.window) d.window

-- so it is of every detector: a new one, one after a frame, one after a reset
pub record AlwaysLevel (wander_of : List (List ℕ) → ℕ) : Type 0 where
  pub new : Level new_detector
  pub pushed : (lim : Limits) (w : ℕ) (d : Detector) (frame : List ℕ) (now : ℕ) → Level d → Level (push_frame wander_of lim w d frame now)
  pub reset : (d : Detector) → Level (restart d)

-- w frames of n entries, in any order
pub record SameFrames (w n : ℕ) (ps qs : List Push) : Type 0 where
  pub some : 1 ≤ n
  pub full : length ps ≡ w
  pub long : Long n (frames_of ps)
  pub reordered : Reordered (frames_of ps) (frames_of qs)

-- A detector, new or with any past, tells the wander of the last w frames.
abbrev pub TellsTheLast : (List (List ℕ) → ℕ) → Type 0
TellsTheLast wander_of =
    (w n : ℕ) (d : Detector) (ps : List Push) → 1 ≤ w → Level d → 1 ≤ n → length ps ≡ w → Long n (frames_of ps)
    → (push_all wander_of w d ps).wander ≡ wander_of (frames_of ps)

-- Two detectors, each new or with any past, tell the same wander if their last w frames are the same in any order.
abbrev pub TellTheSame : (List (List ℕ) → ℕ) → Type 0
TellTheSame wander_of =
    (w n : ℕ) (d e : Detector) (ps qs : List Push) → 1 ≤ w → Level d → Level e → SameFrames w n ps qs
    → (push_all wander_of w d ps).wander ≡ (push_all wander_of w e qs).wander

-- pushes that calls took, each over what the one before left: from a state and its memory to those that the last leaves
pub data AllPushed (K : Kind) (w c : ℕ) : List Push → (s : State) (bytes : List ℕ) → (s' : State) (bytes' : List ℕ) → Type 1 where
  no_more : {s : State} {bytes : List ℕ} → AllPushed K w c [] s bytes s bytes
  and_then : {p : Push} {ps : List Push} {s s₁ s' : State} {bytes bytes₁ bytes' : List ℕ} (new : List ℕ) (count : ℕ) (fs gs : List K.sums.Number) (verdict : Verdict)
      → p.frame ≡ take count new → Pushes K p.lim w c s bytes new count p.now s₁ bytes₁ fs gs verdict → AllPushed K w c ps s₁ bytes₁ s' bytes'
      → AllPushed K w c (p ∷ ps) s bytes s' bytes'

-- The same of the calls: two states that a call would take, with their memory, each new or with any past.
abbrev pub CallsTellTheSame : Kind → Type 1
CallsTellTheSame K =
    (w c n : ℕ) (ps qs : List Push) (s s' t t' : State) (bytes bytes' other other' : List ℕ) (fs gs hs ks : List K.sums.Number)
    → Valid K w c s bytes fs gs → AllPushed K w c ps s bytes s' bytes'
    → Valid K w c t other hs ks → AllPushed K w c qs t other t' other'
    → SameFrames w n ps qs → s'.wander ≡ t'.wander

-- all of it, of one kind of detector
pub record NoOrder (K : Kind) : Type 1 where
  pub level : AlwaysLevel K.wander_of
  pub windows : HasNoOrder K.wander_of
  pub last-frames : TellsTheLast K.wander_of
  pub detectors : TellTheSame K.wander_of
  pub calls : CallsTellTheSame K
