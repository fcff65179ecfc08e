-- The decision at a wander, and the verdict (csi.rs and phase.rs, the end of `push` and `verdict_now`). Assumes nothing.
use Rattle.std.specs.Prelude.{Bool, true, false, cond, ℕ, ◌-◌, ◌/◌, min, leb, ltb}
use Rattle.detector.specs.declared.Limits.{Limits}
use Rattle.detector.specs.declared.Verdict.{Verdict}
use Rattle.detector.specs.declared.Verdict.TheVariants.{Warming, Absent, Present}

-- At or above the on limit: present. Else at or below the off limit with the hold passed since the last motion: absent.
-- Else as it was. (`-` stops at 0: a clock that went back counts as no time.)
abbrev pub present_after : Limits → (now wander : ℕ) → Bool → (last : ℕ) → Bool
present_after lim now wander present last =
    cond (leb lim.on wander) true (cond (leb wander lim.off) (cond (leb lim.hold (now - last)) false present) present)

-- at or above the on limit, the time of the last motion is now
abbrev pub last_after : Limits → (now wander last : ℕ) → ℕ
last_after lim now wander last = cond (leb lim.on wander) now last

-- Warming until there are w rows. Motion is the wander in steps of `unit`, at most a byte
abbrev pub verdict_at : (w unit filled : ℕ) → Bool → (wander : ℕ) → Verdict
verdict_at w unit filled present wander = cond (ltb filled w) Warming (cond present (Present (min 255 (wander / unit))) Absent)
