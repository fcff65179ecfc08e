-- What a detector concluded (csi.rs, `Verdict`): warming, absent, or present with a motion. Assumes nothing.
use Rattle.std.specs.Prelude.{ℕ, max}
use Rattle.detector.specs.declared.Verdict.{Verdict}
use Rattle.detector.specs.declared.Verdict.TheVariants.{Warming, Absent, Present}

-- its number: 0 warming, 1 absent, 2 present
abbrev pub verdict_tag : Verdict → ℕ
verdict_tag Warming = 0
verdict_tag Absent = 1
verdict_tag (Present m) = 2

-- 0 unless present
abbrev pub motion_of : Verdict → ℕ
motion_of Warming = 0
motion_of Absent = 0
motion_of (Present m) = m

-- `Verdict::either`: present if either is, with the larger motion; else warming if either is; else absent
abbrev pub either_of : Verdict → Verdict → Verdict
either_of (Present a) (Present b) = Present (max a b)
either_of (Present a) Warming = Present a
either_of (Present a) Absent = Present a
either_of Warming (Present b) = Present b
either_of Absent (Present b) = Present b
either_of Warming Warming = Warming
either_of Warming Absent = Warming
either_of Absent Warming = Warming
either_of Absent Absent = Absent
