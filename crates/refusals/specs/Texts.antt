-- Each refusal in words, as bytes.
use Rattle.std.specs.Prelude.{ℕ, List, codes}
use Rattle.refusals.specs.declared.refusal.Refusal.{Refusal}
use Rattle.refusals.specs.declared.refusal.Refusal.TheVariants.{TableLength, TraysFull, CrewSize, NodesFull, NotInCrew, NumberOutOfTurn, WishDiffers, Busy, NoSuchTray, ParcelZero, SameTray, DescriptorsFull, NothingInWork, Torn, Wording, OutOfPhase, BadIndex, OutputFull}

abbrev pub explained : Refusal → List ℕ
explained TableLength = codes "a table has the wrong length"
explained TraysFull = codes "32 trays stand already"
explained CrewSize = codes "a crew has 1 to 16 scanners"
explained NodesFull = codes "no node place is left"
explained NotInCrew = codes "the scanner is not in the crew"
explained NumberOutOfTurn = codes "the request number is out of turn"
explained WishDiffers = codes "the last number came with another wish"
explained Busy = codes "the last request is still in work"
explained NoSuchTray = codes "there is no such tray"
explained ParcelZero = codes "0 is no parcel number"
explained SameTray = codes "a move needs two different trays"
explained DescriptorsFull = codes "no descriptor place is left"
explained NothingInWork = codes "the scanner has no request in work"
explained Torn = codes "a table entry is damaged"
explained Wording = codes "the order cannot be read"
explained OutOfPhase = codes "the order does not belong to this phase of the day"
explained BadIndex = codes "the session file is damaged or too long"
explained OutputFull = codes "the output is too short for the line"
