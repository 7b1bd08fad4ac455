-- A choice by a test, and one test that asks for another only where it passes itself.
-- Assumes nothing.
use Rattle.std.specs.Prelude.{Bool, true, false}

-- the first where the test passes, the second where it fails
abbrev pub pick {ℓ} : {A : Type ℓ} → Bool → A → A → A
pick true a b = a
pick false a b = b

-- a requires b: where a passes, b does
abbrev pub implies : Bool → Bool → Bool
implies true b = b
implies false b = true
