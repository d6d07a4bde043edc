-- The number of each refusal.
use Rattle.std.specs.Prelude.{ℕ}
use Rattle.refusals.specs.declared.refusal.Refusal.{Refusal}
use Rattle.refusals.specs.declared.refusal.Refusal.TheVariants.{TableLength, TraysFull, CrewSize, NodesFull, NotInCrew, NumberOutOfTurn, WishDiffers, Busy, NoSuchTray, ParcelZero, SameTray, DescriptorsFull, NothingInWork, Torn, Wording, OutOfPhase, BadIndex, OutputFull}

abbrev pub number_of : Refusal → ℕ
number_of TableLength = 1
number_of TraysFull = 2
number_of CrewSize = 3
number_of NodesFull = 4
number_of NotInCrew = 5
number_of NumberOutOfTurn = 6
number_of WishDiffers = 7
number_of Busy = 8
number_of NoSuchTray = 9
number_of ParcelZero = 10
number_of SameTray = 11
number_of DescriptorsFull = 12
number_of NothingInWork = 13
number_of Torn = 14
number_of Wording = 15
number_of OutOfPhase = 16
number_of BadIndex = 17
number_of OutputFull = 18
