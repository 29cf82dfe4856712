-- ## The text of sites
pub mod SitesLaws
