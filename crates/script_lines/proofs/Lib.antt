mod Common
mod FormLaws
mod FrontLaws
mod LabelLaws
mod NumberForms
mod ReadLaws
mod SixLaws
