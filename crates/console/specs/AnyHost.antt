-- Hosts of either kind.
--   meaning_of   what the host means that one of either kind is
--   lawful_of    that meaning is lawful
-- Assumes nothing.
use Rattle.calculus.specs.Meanings.{Meaning, Lawful}
use Rattle.hosts.specs.Listed.{listed}
use Rattle.hosts.specs.ListedLaw.{listed_lawful}
use Rattle.hosts.specs.Sheets.{sheet}
use Rattle.hosts.specs.SheetLaw.{sheet_lawful}
use Rattle.console.specs.declared.host_data.AnyHost.{AnyHost}
use Rattle.console.specs.declared.host_data.AnyHost.TheVariants.{Listing, Sheet}

abbrev pub meaning_of : AnyHost → Meaning
meaning_of (Listing x) = listed x.versions.now x.today
meaning_of (Sheet x) = sheet x.profile x.lines.now

pub lawful_of : (x : AnyHost) → Lawful (meaning_of x)
lawful_of (Listing x) = listed_lawful x.versions.now x.today x.few
lawful_of (Sheet x) = sheet_lawful x.profile x.lines.now x.fits x.legal
